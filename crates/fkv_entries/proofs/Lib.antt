mod Counting
pub mod Shown
