pub mod Refused
pub mod Shares
