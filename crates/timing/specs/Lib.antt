pub mod Ranges
pub mod Formulas
pub mod Slack
pub mod Elements
pub mod Relaxed
pub mod Valid
pub mod Clocks
