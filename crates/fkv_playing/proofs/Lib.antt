pub mod Shown
mod Hearing
pub mod Silence
pub mod Comparing
pub mod Putting
pub mod Queuing
pub mod Rounds
pub mod Picking
pub mod Turns
