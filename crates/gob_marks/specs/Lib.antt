pub mod Changed
pub mod Joined
pub mod Places
pub mod Tables
