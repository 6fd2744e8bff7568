pub mod NoRoute
pub mod Passing
pub mod Parts
