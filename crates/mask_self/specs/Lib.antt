pub mod Generator
pub mod Collecting
pub mod Reports
pub mod Selves
