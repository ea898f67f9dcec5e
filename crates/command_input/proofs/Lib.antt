pub mod Reading
pub mod Taking
pub mod TreeReading
pub mod Files
