pub mod MarkedOnes
pub mod Holders
pub mod Neighbours
pub mod Weights
pub mod Search
pub mod Closing
pub mod Reasons
pub mod Laws
