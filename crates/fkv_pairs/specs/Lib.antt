pub mod Gathered
pub mod Pairs
