pub mod Checking
pub mod Checks
pub mod Ends
pub mod Laws
pub mod Probing
pub mod Upgrading
