pub mod Lists
pub mod Counts
pub mod Few
pub mod Runs
