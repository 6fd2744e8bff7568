pub mod Kept
pub mod Sets
pub mod Turns
pub mod Start
pub mod Trailing
