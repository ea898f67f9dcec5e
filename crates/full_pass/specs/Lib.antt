pub mod Answer
pub mod Entries
pub mod Passing
pub mod Tallies
pub mod View
