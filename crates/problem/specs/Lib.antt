pub mod Problem
pub mod Net
