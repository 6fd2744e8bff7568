pub mod Lent
pub mod Whole
pub mod Decides
pub mod Example
