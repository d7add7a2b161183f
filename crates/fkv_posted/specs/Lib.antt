pub mod Coding
pub mod Noted
pub mod Outcomes
pub mod Posting
pub mod Remains
pub mod Shows
