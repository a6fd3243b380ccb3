pub mod Names
pub mod Maps
pub mod Held
pub mod Folders
pub mod Opened
pub mod Syncs
