pub mod CallTold
pub mod Calls
mod Fresh
pub mod InLists
mod Updated
pub mod Whole
