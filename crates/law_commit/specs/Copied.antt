pub mod Covers
pub mod Runs
