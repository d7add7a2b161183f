mod Index
mod Keepers
mod Places
mod Sessions
mod Sorting
pub mod Worlds
