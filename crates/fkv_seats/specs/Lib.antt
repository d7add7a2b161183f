pub mod Kept
pub mod Rule
