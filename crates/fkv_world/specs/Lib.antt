pub mod Actors
pub mod Moves
pub mod Opened
pub mod OwnEvents
pub mod Past
pub mod Runs
pub mod World
