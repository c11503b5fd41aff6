pub mod Chaskey
pub mod NamedChaskey
pub mod Rounds
