pub mod Heads
pub mod Laws
pub mod Searches
