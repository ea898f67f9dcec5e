pub mod Instance
pub mod Value
pub mod Laws
