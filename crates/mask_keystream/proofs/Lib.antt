pub mod Blocks
pub mod Evaluations
pub mod Pieces
