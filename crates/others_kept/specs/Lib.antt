pub mod Others
pub mod Counts
