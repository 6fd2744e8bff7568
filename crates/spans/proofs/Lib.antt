pub mod Named
pub mod Opens
pub mod Eases
pub mod Buffers
pub mod Arriving
pub mod Stepping
