mod Appending
pub mod Shown
