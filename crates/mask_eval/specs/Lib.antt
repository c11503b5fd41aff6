pub mod Evaluated
pub mod Frames
pub mod Listing
pub mod Telling
pub mod Watching
