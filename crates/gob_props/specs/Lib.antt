pub mod Properties
pub mod Steps
pub mod Laws
