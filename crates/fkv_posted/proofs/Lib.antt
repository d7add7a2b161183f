mod Calling
pub mod Shown
mod Walks
