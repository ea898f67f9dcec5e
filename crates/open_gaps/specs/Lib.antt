pub mod Gaps
pub mod Tables
pub mod Labels
