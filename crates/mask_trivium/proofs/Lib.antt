pub mod Calling
mod ClockExamples
pub mod Clocking
pub mod Concluding
pub mod Running
pub mod Shifting
pub mod Showing
pub mod Starting
mod TriviumVectors
