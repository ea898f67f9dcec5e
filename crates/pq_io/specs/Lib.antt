pub mod MemFile
pub mod MemShelf
pub mod MemSink
pub mod NamedFiles
pub mod NeverShelf
