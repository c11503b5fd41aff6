pub mod Asking
pub mod Placing
pub mod Shifting
pub mod Sides
