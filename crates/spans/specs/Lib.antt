pub mod Opens
pub mod Eases
pub mod Arrive
pub mod Spread
