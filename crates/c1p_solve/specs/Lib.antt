pub mod Answers
pub mod Totals
pub mod Sessions
pub mod Codes
pub mod Kept
pub mod Taking
pub mod SessionTotals
pub mod Growing
