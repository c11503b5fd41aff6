pub mod Blocks
pub mod Concluding
pub mod Counting
pub mod Encrypting
pub mod Fitting
pub mod Forming
pub mod Holding
pub mod Knowing
pub mod Lengthening
pub mod NumberLaws
pub mod Permuting
mod PresentVectors
mod RoundExamples
pub mod Showing
pub mod Stretches
pub mod Tidying
pub mod Updates
