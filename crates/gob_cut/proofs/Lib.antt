pub mod Places
pub mod Looks
pub mod Taking
pub mod Told
pub mod Listed
pub mod Going
pub mod Whole
