pub mod NamedPresent
pub mod Present
pub mod Rounds
