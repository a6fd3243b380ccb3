pub mod Made
pub mod Fitting
