pub mod Question
pub mod Checked
pub mod Crossing
pub mod Asked
