pub mod Solved
pub mod Parts
