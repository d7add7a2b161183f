pub mod Beginnings
pub mod Below
pub mod Crashes
pub mod Files
pub mod Openings
pub mod Pieces
pub mod Runs
