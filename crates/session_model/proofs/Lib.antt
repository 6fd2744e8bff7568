pub mod Laid
pub mod Entries
pub mod Turns
pub mod Replies
pub mod Demand3
pub mod OwnAnswers
