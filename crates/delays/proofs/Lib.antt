pub mod Cuts
pub mod Closes
pub mod Idles
pub mod Waiting
pub mod Easing
