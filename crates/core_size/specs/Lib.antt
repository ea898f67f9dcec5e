pub mod Slack
pub mod Laws
