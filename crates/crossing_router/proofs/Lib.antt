pub mod FarSide
pub mod BestCrossing
pub mod Outcomes
pub mod Refusals
pub mod Passed
pub mod Demand2
