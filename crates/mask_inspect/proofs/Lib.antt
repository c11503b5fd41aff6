pub mod Deciding
pub mod Reports
pub mod Stopping
