pub mod Queue
pub mod Room
