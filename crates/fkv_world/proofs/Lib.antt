mod CallsAdded
mod Device
mod Others
mod OwnRuns
pub mod Shown
