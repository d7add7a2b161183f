mod Lines
pub mod Enabled
mod Runs
