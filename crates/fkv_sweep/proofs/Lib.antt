mod Actions
pub mod AsksLeft
mod Finds
mod Loads
pub mod Reading
mod Same
mod Searches
mod Sound
mod Within
pub mod Shown
