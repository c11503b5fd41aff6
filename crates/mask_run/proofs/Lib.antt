pub mod LaneZero
pub mod Printing
pub mod Promises
pub mod Statuses
pub mod Telling
