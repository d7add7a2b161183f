mod Breaking
mod Foretelling
pub mod Joining
mod Legs
pub mod Recovery
mod Replays
mod Reported
pub mod Shown
pub mod Told
pub mod Turning
