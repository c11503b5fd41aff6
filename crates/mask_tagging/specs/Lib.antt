pub mod ChaskeyForms
pub mod LightMacForms
pub mod Runs
pub mod Tagging
