pub mod Cuts
pub mod Forms
pub mod Examples
pub mod Tables
pub mod Paths
pub mod Once
pub mod Options
