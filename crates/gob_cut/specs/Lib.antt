pub mod Ends
pub mod Faults
pub mod Going
pub mod Rounds
pub mod Units
