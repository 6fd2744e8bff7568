pub mod Truth
pub mod Division
pub mod Check
pub mod Joined
pub mod Sides
pub mod Apart
