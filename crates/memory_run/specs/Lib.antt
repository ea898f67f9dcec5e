pub mod Given
pub mod Kept
pub mod Called
pub mod Agreed
pub mod Complete
