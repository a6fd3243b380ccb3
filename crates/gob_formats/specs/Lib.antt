pub mod Keeping
pub mod Adding
pub mod Fields
pub mod Splits
pub mod Rows
pub mod Escapes
pub mod Members
pub mod Objects
