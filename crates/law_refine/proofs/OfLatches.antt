pub mod Apart
mod AttemptLatches
mod CatchLatches
mod Counts
pub mod Permitted
mod Moved
mod Needs
pub mod InTries
mod Openings
mod Seats
mod SessionLatches
mod TryLatches
mod Worlds
