pub mod Calls
pub mod Crashes
pub mod Failures
pub mod Maps
pub mod MemVolume
pub mod Reads
pub mod Replay
pub mod Stores
