pub mod HandedOut
pub mod Keystreams
pub mod Plans
mod StreamExamples
pub mod TapeBits
pub mod Values
