pub mod Added
pub mod Crashes
pub mod Ends
