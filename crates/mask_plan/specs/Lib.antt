pub mod Sessions
pub mod Inside
