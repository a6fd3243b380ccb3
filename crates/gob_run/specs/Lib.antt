pub mod World
pub mod Entry
pub mod Answers
pub mod Faults
pub mod Cutting
pub mod Working
