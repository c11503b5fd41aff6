pub mod Calls
pub mod Drawing
pub mod Lanes
pub mod Laws
pub mod Privacy
pub mod Steps
pub mod Traces
pub mod Values
