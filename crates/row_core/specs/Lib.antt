pub mod Blamed
pub mod Cored
