pub mod Slacks
pub mod Cuts
pub mod Roots
pub mod Narrowed
pub mod Sizes
