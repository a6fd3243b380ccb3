pub mod Entering
pub mod Readers
pub mod World
mod Lasting
mod Reading
mod Published
mod Wents
mod Began
mod Counting
mod Trailing
mod Answering
pub mod Settled
mod Refusing
mod Fitting
mod Holding
mod Apart
mod Given
mod Staging
mod Filing
mod Worked
mod Idle
mod Called
