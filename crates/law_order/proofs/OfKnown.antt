pub mod Begins
pub mod Begun
pub mod Newest
