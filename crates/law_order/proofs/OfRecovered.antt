pub mod OfCrashed
pub mod OfHolds
pub mod OfPoints
pub mod OfShows
pub mod OfUses
