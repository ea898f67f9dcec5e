pub mod Circular
pub mod Laws
