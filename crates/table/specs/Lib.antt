pub mod Problem
pub mod ArrivalRow
pub mod Layer
pub mod Colours
