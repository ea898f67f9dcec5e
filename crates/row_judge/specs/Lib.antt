pub mod Judges
pub mod Blamed
pub mod Costs
