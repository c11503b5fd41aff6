pub mod Growing
pub mod Ending
pub mod Telling
pub mod Handing
pub mod Pieces
pub mod Reading
