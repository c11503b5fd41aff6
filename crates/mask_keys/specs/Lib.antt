pub mod Lines
pub mod Files
pub mod Answers
pub mod Splitting
pub mod Laws
