pub mod Records
pub mod Warmed
