pub mod Stretches
pub mod Free
pub mod Sides
