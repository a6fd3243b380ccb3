pub mod Causes
pub mod Examples
pub mod Reached
