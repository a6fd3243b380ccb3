pub mod Watermarks
pub mod Pieces
pub mod Counts
pub mod Called
