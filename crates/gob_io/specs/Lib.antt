pub mod ByName
pub mod Listing
pub mod MemSink
pub mod MemSource
