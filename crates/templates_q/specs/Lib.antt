pub mod Walk
pub mod Lines
pub mod Fits
pub mod Splicing
pub mod Span
pub mod Opening
