mod Copies
mod Along
pub mod Named
pub mod Examples
