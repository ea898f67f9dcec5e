pub mod ConvexLaws
mod Counting
mod Placing
mod SoFar
mod Sums
