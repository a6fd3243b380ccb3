pub mod Columns
pub mod Rows
pub mod Tests
pub mod Patterns
