pub mod Days
pub mod Joined
mod Rows
mod Spans
