pub mod Evaluations
pub mod Chains
