pub mod Places
pub mod Tiles
pub mod Rows
pub mod Walks
pub mod Joins
