pub mod Effects
pub mod Heard
pub mod OwnRun
