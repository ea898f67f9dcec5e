pub mod Places
pub mod Alike
pub mod CompleteNodes
pub mod Looks
pub mod Children
pub mod Together
