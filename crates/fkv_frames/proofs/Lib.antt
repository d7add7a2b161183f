mod Open
pub mod Shown
