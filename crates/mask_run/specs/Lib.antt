pub mod Calls
pub mod Evaluating
pub mod Hexadecimal
pub mod Lanes
pub mod Outside
pub mod Promises
