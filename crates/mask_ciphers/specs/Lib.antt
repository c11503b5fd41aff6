pub mod Methods
pub mod Tasks
pub mod Totals
pub mod Laws
