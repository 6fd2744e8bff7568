pub mod Records
pub mod Stages
pub mod Sound
pub mod Decides
