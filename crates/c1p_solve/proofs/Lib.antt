mod Orders
mod Sums
mod Nodes
mod Rows
pub mod Growth
