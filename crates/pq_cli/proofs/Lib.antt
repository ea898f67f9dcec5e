pub mod Reading
pub mod Statuses
pub mod Judged
pub mod Told
pub mod SessionLaws
pub mod ListLaws
pub mod Meetings
pub mod Units
pub mod PromiseLaws
pub mod Answered
pub mod Counts
mod Decided
pub mod Frame
pub mod Lines
pub mod Bases
pub mod Promises
pub mod Takings
pub mod Says
mod RealLaws
mod ToldFiles
pub mod Pieces
