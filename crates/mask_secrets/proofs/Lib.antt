pub mod Deciding
pub mod Drawing
pub mod Stopping
