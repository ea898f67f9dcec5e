pub mod Handed
pub mod Pieces
pub mod Through
