pub mod Question
pub mod Effect
pub mod Judged
pub mod Explained
pub mod Crossed
pub mod Searched
