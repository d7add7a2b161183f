pub mod AsksLeft
pub mod Swept
pub mod SweptLogs
pub mod Sweeping
