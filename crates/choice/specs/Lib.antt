pub mod Choice
pub mod Codes
