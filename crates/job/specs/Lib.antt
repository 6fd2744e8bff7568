pub mod Fields
pub mod Job
