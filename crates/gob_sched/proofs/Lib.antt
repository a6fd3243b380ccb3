pub mod Rising
mod Following
