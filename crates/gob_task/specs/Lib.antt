pub mod Task
pub mod Turn
pub mod Staging
pub mod Judging
pub mod Laws
pub mod Finish
pub mod Bench
