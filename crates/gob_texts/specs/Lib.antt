pub mod Refusals
pub mod Report
pub mod Commands
pub mod Laws
pub mod Examples
