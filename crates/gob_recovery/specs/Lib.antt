pub mod Sequence
pub mod Settle
pub mod Commits
pub mod Laws
pub mod Examples
