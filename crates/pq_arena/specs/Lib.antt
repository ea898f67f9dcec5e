pub mod Wiring
pub mod StandsFor
pub mod Looks
pub mod View
pub mod Start
pub mod Arities
pub mod RowNodes
