pub mod Concluding
pub mod Ending
mod LightMacVectors
pub mod Tags
