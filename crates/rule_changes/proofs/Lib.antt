pub mod Skew
pub mod KeepOut
