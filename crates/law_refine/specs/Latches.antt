pub mod InTries
pub mod Latchers
pub mod LatchEvents
pub mod Shows
