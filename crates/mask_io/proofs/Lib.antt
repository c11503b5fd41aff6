pub mod Writing
pub mod Seeds
pub mod Filling
mod Examples
