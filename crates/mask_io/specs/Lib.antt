pub mod Outside
pub mod Memory
pub mod Seeded
pub mod Adapters
pub mod Opened
