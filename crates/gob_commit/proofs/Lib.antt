pub mod Doing
mod Names
mod Parts
mod Differing
mod Fitting
mod Joining
pub mod Reading
mod Stepping
mod Beginning
mod Pushing
mod Judging
mod Placing
mod Nexting
mod Committing
mod Splitting
mod Progress
mod Looping
mod Whole
