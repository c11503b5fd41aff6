pub mod Outside
pub mod Counting
pub mod Encrypting
pub mod Sessions
pub mod Stopping
