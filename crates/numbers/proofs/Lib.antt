pub mod Sequence
pub mod Bounded
pub mod Cut
