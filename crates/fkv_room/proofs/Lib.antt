mod Counts
mod Entering
mod Filling
mod Listing
mod Unique
pub mod Shown
