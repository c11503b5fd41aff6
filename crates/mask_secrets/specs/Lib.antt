pub mod KeyEnds
pub mod Splitting
pub mod Joining
pub mod Laws
