pub mod Carrying
pub mod Counting
pub mod Ending
mod GeneratorExamples
pub mod Generating
pub mod Keys
mod SelfExamples
pub mod SelfRuns
pub mod Summing
