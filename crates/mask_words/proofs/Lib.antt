pub mod Apart
pub mod Circuits
pub mod Hexadecimal
pub mod JobWords
pub mod Matching
pub mod Numbers
pub mod Places
pub mod Trying
