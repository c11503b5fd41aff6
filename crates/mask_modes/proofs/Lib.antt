pub mod Batches
pub mod BlockCounts
pub mod Blocks
pub mod CiphertextBlocks
mod CounterExamples
pub mod Encrypting
pub mod HandedOut
pub mod Keystreams
pub mod Numbers
pub mod Pieces
pub mod Plans
pub mod Readings
pub mod Splitting
mod StepsExamples
pub mod TapeBits
pub mod Xors
