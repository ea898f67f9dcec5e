mod Charges
mod Within
pub mod Units
pub mod Sessions
pub mod Lists
pub mod Cores
pub mod Counted
pub mod Drawn
pub mod Grown
mod MetNodes
pub mod Centres
mod Answered
