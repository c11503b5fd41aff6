pub mod Drawn
pub mod Tape
