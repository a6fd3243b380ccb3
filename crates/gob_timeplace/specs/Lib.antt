pub mod Folders
pub mod Slashes
