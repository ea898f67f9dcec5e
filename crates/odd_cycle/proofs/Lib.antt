pub mod Items
pub mod RowOnes
pub mod NumberLaws
pub mod MarkLaws
mod CycleLength
mod FoldLaws
mod FoldSteps
mod PairLaws
mod RisingLaws
mod ShortLaws
