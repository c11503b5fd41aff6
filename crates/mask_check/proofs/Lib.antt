pub mod Batching
pub mod Counting
pub mod Flagging
pub mod Judging
pub mod Marking
pub mod Passing
pub mod Words
