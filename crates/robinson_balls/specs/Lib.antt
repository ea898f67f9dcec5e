pub mod Balls
pub mod Laws
pub mod Neighbours
