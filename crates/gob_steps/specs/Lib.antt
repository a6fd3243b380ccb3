pub mod Told
pub mod Places
pub mod Changes
pub mod Building
