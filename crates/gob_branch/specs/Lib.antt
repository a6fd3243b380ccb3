pub mod ItemSpans
pub mod Branches
