mod Asking
mod Deferring
pub mod Ends
pub mod Maintaining
pub mod Runs
pub mod Starting
