pub mod Asks
pub mod Calls
pub mod Model
pub mod Run
pub mod Demand3
