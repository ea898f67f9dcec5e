pub mod Lines
pub mod Words
pub mod DigitEnds
pub mod Rows
pub mod Heads
pub mod FirstRefusal
pub mod TextLaws
