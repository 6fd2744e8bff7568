pub mod Plan
pub mod Check
pub mod Joined
pub mod Apart
pub mod Sides
