pub mod ChaskeyBits
pub mod ChaskeyBlocks
mod ChaskeyExamples
pub mod ChaskeyPlans
pub mod ChaskeyTags
pub mod ChaskeyValues
pub mod LightMacBits
mod LightMacExamples
pub mod LightMacPlans
pub mod LightMacRows
pub mod LightMacTags
pub mod LightMacValues
pub mod Messages
pub mod OwnSteps
pub mod Pieces
pub mod Plans
pub mod Refreshes
pub mod Rows
