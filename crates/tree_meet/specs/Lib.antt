pub mod TreeRows
pub mod Marks
pub mod Meets
pub mod Laws
