mod Along
pub mod Asks
mod Changed
mod Kept
mod Lives
mod Replies
pub mod Rows
pub mod Seeks
pub mod Stays
