pub mod Sound
pub mod Runs
pub mod Rounds
pub mod Examples
pub mod Laws
