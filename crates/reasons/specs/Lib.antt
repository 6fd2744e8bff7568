pub mod Reasons
pub mod Explains
pub mod Probe
