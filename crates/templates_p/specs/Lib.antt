pub mod Sorts
pub mod Fits
pub mod Steps
pub mod Lines
pub mod Merging
pub mod Parts
pub mod Members
pub mod Dividing
