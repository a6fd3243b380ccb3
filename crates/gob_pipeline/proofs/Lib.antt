mod Adds
mod Making
mod Routing
mod Chunks
mod Counting
mod Cuts
mod Feeding
pub mod Filled
mod Lines
mod Sent
mod Slots
mod Spelling
mod Taken
mod Targets
pub mod Fronts
