pub mod Attempting
pub mod Calm
pub mod Comes
pub mod Floors
pub mod Heads
