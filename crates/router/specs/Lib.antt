pub mod Route
pub mod Ready
pub mod Least
pub mod Writing
