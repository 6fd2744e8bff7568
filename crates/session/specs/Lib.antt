pub mod Numbers
pub mod Journal
pub mod Answers
pub mod Steps
