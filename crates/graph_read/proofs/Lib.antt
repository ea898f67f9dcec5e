pub mod ListLemmas
pub mod PlaceLemmas
pub mod BitLemmas
pub mod EdgeSteps
pub mod EdgeLemmas
pub mod HeadLemmas
pub mod FileLemmas
pub mod DistanceLemmas
pub mod TableRows
pub mod TableSteps
pub mod Ranges
pub mod EdgeNames
pub mod FileLaws
pub mod WrittenLaws
pub mod Named
pub mod RefusalLaws
pub mod TableRefusals
pub mod Same
mod RoomLemmas
mod PlacedLemmas
mod HeadedLemmas
