pub mod Clocks
pub mod NamedTrivium
pub mod Trivium
