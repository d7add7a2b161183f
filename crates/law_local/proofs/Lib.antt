pub mod OfSessions
pub mod OfTries
