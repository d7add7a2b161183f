pub mod Below
pub mod Sessions
pub mod Tries
