pub mod Finders
pub mod IndexEvents
pub mod LifeEntries
pub mod Searching
pub mod Shows
