pub mod Standing
pub mod Treated
