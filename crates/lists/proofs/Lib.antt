pub mod Sums
pub mod Lists
