pub mod Along
pub mod Chains
pub mod Entries
pub mod Reached
pub mod Refused
pub mod Ways
