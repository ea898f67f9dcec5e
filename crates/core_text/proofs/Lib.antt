pub mod Masked
pub mod LeftOut
pub mod OrderLemmas
pub mod EntryLaws
pub mod CoreLaws
pub mod PrintLaws
