pub mod Words
pub mod Figures
pub mod Judged
pub mod Explained
pub mod Crossed
