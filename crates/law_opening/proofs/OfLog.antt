pub mod Counted
pub mod Heads
pub mod Left
mod Mapping
pub mod Opens
mod Pairing
mod Reaching
pub mod SameMaps
mod Walking
mod Words
