pub mod Attempts
pub mod Frames
mod Searches
pub mod Truth
mod Words
