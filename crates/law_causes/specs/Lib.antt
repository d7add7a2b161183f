pub mod Causes
pub mod Ends
pub mod Lives
