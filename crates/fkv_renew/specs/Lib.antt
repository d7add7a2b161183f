pub mod Answers
pub mod Asked
pub mod Files
pub mod Renewals
pub mod Said
pub mod Saved
pub mod Sizes
pub mod Stores
