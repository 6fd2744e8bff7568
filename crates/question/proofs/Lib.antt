pub mod Checks
pub mod Slack
pub mod Crossing
