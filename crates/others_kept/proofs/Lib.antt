pub mod Sums
pub mod Neighbours
pub mod EachRow
pub mod Squares
pub mod SpanLaws
pub mod Tables
pub mod Rest
