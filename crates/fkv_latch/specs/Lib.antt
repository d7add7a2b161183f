pub mod LatchWorld
pub mod Latched
pub mod Latching
pub mod Meeting
pub mod Tasks
