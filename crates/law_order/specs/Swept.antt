pub mod Logs
pub mod Shown
pub mod Sweeps
pub mod Valid
