pub mod Labels
pub mod Sound
pub mod GapRows
pub mod RowSteps
pub mod Steps
pub mod Places
pub mod OpenLaws
