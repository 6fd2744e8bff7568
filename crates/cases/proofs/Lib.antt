pub mod Tables
pub mod Cases
