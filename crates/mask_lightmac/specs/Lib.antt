pub mod LightMac
pub mod NamedLightMac
