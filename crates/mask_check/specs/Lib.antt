pub mod Admission
pub mod Batches
pub mod Costs
pub mod Fencing
pub mod Marks
pub mod Security
pub mod Verdicts
