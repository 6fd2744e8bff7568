pub mod Route
pub mod Sides
