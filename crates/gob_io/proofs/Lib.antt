pub mod Listed
pub mod Sorting
