pub mod Gadgets
pub mod Wiring
