pub mod Done
pub mod Answered
