pub mod ChaskeyEvaluations
pub mod ChaskeyPieces
pub mod LightMacBlocks
pub mod LightMacEvaluations
pub mod Stopping
