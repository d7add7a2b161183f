pub mod Falls
pub mod Loads
pub mod News
pub mod Numbers
pub mod Other
pub mod Sealed
