pub mod OfChanges
pub mod OfLives
mod OfLog
mod OfWorlds
pub mod Below
