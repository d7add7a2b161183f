pub mod InTime
pub mod Openings
pub mod Ordered
pub mod Waiting
