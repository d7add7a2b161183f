pub mod Counted
pub mod Heads
pub mod Manifest
pub mod Newest
pub mod Refused
