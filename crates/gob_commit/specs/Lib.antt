pub mod Done
pub mod Laws
pub mod Staged
pub mod Groups
pub mod Going
