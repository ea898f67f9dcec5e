pub mod BallLaws
pub mod Growing
pub mod Radii
pub mod Rounds
pub mod Rims
pub mod Rising
pub mod RowLemmas
