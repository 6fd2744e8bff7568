pub mod Asked
pub mod Skew
pub mod KeepOut
