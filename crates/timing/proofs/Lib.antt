pub mod Bounds
pub mod Changed
pub mod Checked
pub mod OneClock
pub mod Relaxed
pub mod Signed
pub mod Skew
pub mod SlackLaws
