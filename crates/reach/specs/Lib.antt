pub mod Cone
pub mod Reach
