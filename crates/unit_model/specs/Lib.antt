pub mod Models
pub mod Walks
pub mod Rule
pub mod Drawing
pub mod Fitting
pub mod Text
pub mod Reading
pub mod Laws
