pub mod Lists
pub mod Made
pub mod GoodEnds
pub mod Scan
pub mod FirstFault
pub mod FirstCrossing
