pub mod Applied
pub mod Changes
pub mod Loading
pub mod Written
