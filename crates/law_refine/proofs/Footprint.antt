mod Appends
mod Attempts
pub mod Catches
pub mod Commits
mod Deferred
mod Epochs
mod Finds
pub mod Keepers
mod Latching
pub mod Lives
pub mod Maintains
mod Moves
mod Outside
pub mod OwnTurns
mod Serves
pub mod Sessions
mod Tries
mod Walks
