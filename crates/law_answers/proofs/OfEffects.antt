mod Moved
mod Quiet
pub mod Stepped
pub mod Told
