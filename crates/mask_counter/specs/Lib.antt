pub mod Blocks
pub mod Batches
