pub mod Labels
pub mod Additions
pub mod BothSets
pub mod Seeds
pub mod Codes
pub mod IdleGates
pub mod Arriving
pub mod Ready
