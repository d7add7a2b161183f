pub mod Counted
pub mod Refused
pub mod Room
