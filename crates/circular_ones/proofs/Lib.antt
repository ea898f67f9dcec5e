mod Complements
pub mod CutLaws
mod CutRows
mod Outside
mod Rotations
mod Turns
