pub mod Called
pub mod Telling
pub mod Finding
pub mod Checking
pub mod Settling
pub mod Running
pub mod Commanding
