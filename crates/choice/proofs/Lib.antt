pub mod Seeds
pub mod Codes
pub mod Visits
pub mod Sides
