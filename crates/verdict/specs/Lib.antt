pub mod Verdict
pub mod Fault
pub mod Cap
pub mod Gates
pub mod Visits
