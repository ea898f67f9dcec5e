pub mod UmbrellaLaws
pub mod ClosedLemmas
pub mod IntervalLemmas
pub mod FormulaLaws
pub mod SortedOrders
pub mod ListMade
pub mod ModelLaws
pub mod ReachLemmas
