mod OfGuardKeeper
pub mod OfGuardSessions
pub mod OfGuarded
pub mod OfKeeper
pub mod OfRuns
pub mod OfSessions
pub mod OfStanding
pub mod Below
