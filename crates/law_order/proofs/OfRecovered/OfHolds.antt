pub mod Holds
pub mod Opened
