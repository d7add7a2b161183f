pub mod Attempts
pub mod Links
mod Near
pub mod Raises
pub mod Sessions
mod Tests
pub mod Stays
pub mod Tries
pub mod Walks
