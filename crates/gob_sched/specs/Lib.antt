pub mod CoreValue
pub mod Calls
