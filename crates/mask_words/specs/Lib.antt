pub mod Jobs
pub mod Naming
pub mod WordTests
