pub mod Causes
pub mod Examples
pub mod Looks
pub mod Names
pub mod Trail
pub mod Only
pub mod Supply
