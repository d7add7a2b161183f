mod Histories
mod KeptEntries
mod Keys
pub mod Shown
mod Stored
mod Values
mod Whole
