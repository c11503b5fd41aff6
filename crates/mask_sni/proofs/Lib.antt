pub mod Keeping
pub mod Members
pub mod Numbers
pub mod Masks
pub mod Sums
