pub mod Umbrellas
pub mod Laws
pub mod Models
pub mod Fitting
pub mod Formula
pub mod Reaches
