pub mod Slack
pub mod Visits
pub mod BestMade
