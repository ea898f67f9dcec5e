pub mod StepBounds
pub mod CheckedLaws
pub mod PartLaws
