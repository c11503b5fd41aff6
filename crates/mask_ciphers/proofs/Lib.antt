pub mod Batches
pub mod Breaking
pub mod Drawing
pub mod Enciphering
mod GateExamples
pub mod Gates
pub mod Joining
pub mod KeyBits
mod LeaExamples
pub mod Tagging
mod TaskExamples
pub mod Writing
