pub mod Lines
pub mod Refusals
pub mod Counted
pub mod States
