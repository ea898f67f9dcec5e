pub mod Agreeing
pub mod Completing
pub mod Names
pub mod Steps
pub mod Unrun
