pub mod Rulings
pub mod Places
pub mod Standing
