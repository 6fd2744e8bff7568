pub mod Front
pub mod Turn
pub mod Ask
pub mod Search
pub mod Idle
