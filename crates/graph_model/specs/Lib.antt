pub mod Graphs
pub mod Distances
pub mod Inside
