pub mod Laid
pub mod Registers
pub mod Evaluated
pub mod Stopping
pub mod Forms
pub mod BitWords
