pub mod Lea
pub mod NamedLea
pub mod Rounds
