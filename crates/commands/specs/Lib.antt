pub mod Faults
pub mod Judgements
pub mod CoreJudgements
pub mod Findings
pub mod Meetings
pub mod Passed
pub mod Numbers
