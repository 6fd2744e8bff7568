pub mod Better
pub mod Words
pub mod Rest
pub mod Calls
