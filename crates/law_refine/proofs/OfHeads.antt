pub mod AtHome
pub mod Entries
pub mod LifeHeads
pub mod LifeReaders
mod Reserved
mod Steps
mod Won
