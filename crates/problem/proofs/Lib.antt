pub mod Sizes
pub mod Clocks
pub mod Wires
