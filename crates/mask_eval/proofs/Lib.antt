pub mod Counts
pub mod LaneRuns
pub mod Lists
pub mod Runs
pub mod Shared
pub mod Told
