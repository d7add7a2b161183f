pub mod Asks
pub mod Defers
pub mod Keepers
pub mod Lives
pub mod Moved
pub mod Sessions
pub mod Turns
