pub mod BlockNumbers
pub mod Calling
mod ChaskeyVectors
pub mod Concluding
pub mod DoubledNumbers
pub mod Lengthening
mod RoundExamples
pub mod Running
pub mod Showing
pub mod Starting
pub mod Tags
