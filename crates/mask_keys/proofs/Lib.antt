pub mod Answering
pub mod Cutting
pub mod Deciding
mod FileExamples
pub mod Finding
pub mod Hiding
pub mod Joining
pub mod Returning
pub mod Sending
pub mod Sharing
mod SplitExamples
