pub mod Faults
pub mod Steps
pub mod Reading
pub mod Maps
