pub mod ChaskeyRuns
pub mod Codes
pub mod Laws
pub mod LightMacRuns
