pub mod CounterMode
pub mod Laws
pub mod Outputs
pub mod Readings
pub mod Steps
