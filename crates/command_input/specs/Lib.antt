pub mod Words
pub mod Task
pub mod Instances
pub mod InstancePieces
pub mod TreeReading
pub mod TreeFiles
