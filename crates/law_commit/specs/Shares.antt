pub mod Alone
pub mod Leaving
pub mod Since
pub mod Tries
pub mod Waiting
