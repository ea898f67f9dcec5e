pub mod Spare
pub mod Replaced
pub mod Unchanged
