pub mod Unions
pub mod Classes
