pub mod Fitting
pub mod TwoUnits
