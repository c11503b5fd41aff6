pub mod Numbers
pub mod Bytes
pub mod Places
pub mod Exchange
mod Examples
pub mod Words
