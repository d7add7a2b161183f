mod Actors
mod AppendParts
pub mod AttemptParts
pub mod Permitted
pub mod FindingFacts
pub mod Goes
mod Leaves
pub mod LifeFacts
pub mod LifeMoves
pub mod Moved
mod Openings
mod OwnAsks
pub mod Readers
pub mod SessionAsks
pub mod SessionParts
pub mod TryParts
pub mod WalkParts
pub mod Worlds
