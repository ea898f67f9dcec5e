pub mod Numbers
pub mod Marks
pub mod Needed
pub mod Whole
pub mod Parts
pub mod Rounds
pub mod Told
pub mod Judgements
