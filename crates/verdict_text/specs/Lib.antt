pub mod Verdict
pub mod Text
pub mod Grammar
pub mod Value
pub mod Reading
pub mod Seen
