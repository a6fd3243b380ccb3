pub mod Kept
pub mod Texts
pub mod Machine
pub mod Plain
pub mod Reading
pub mod Spelled
pub mod Trees
pub mod Written
