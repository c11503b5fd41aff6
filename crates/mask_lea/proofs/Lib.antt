pub mod Blocks
pub mod Calling
pub mod Concluding
pub mod Lengthening
mod LeaVectors
pub mod Mixing
mod RoundExamples
pub mod Running
pub mod Showing
pub mod Starting
