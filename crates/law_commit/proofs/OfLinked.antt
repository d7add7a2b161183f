pub mod Lives
mod Searches
pub mod Since
mod Unlinked
