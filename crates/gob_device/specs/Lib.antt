pub mod Causes
pub mod Disk
pub mod Names
pub mod Output
pub mod Supply
