pub mod Distinct
pub mod Limits
