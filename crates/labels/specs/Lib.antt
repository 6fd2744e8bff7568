pub mod Labels
pub mod Additions
pub mod Both
pub mod Idle
