mod Entering
mod Faultless
mod FollowedTo
mod Reaching
mod Staging
mod Ways
pub mod Shown
