pub mod Attempt
pub mod Inside
pub mod Stages
pub mod Laws
