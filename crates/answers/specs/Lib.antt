pub mod Lists
pub mod Numbers
pub mod Tables
pub mod Crossing
pub mod Ends
