pub mod Put
pub mod Checked
