pub mod Slots
pub mod History
pub mod Changes
