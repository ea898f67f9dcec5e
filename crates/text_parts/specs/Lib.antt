pub mod Grammar
pub mod Numbered
pub mod Text
pub mod Reading
pub mod Seen
