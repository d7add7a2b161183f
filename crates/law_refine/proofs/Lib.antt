pub mod Footprint
mod Items
pub mod OfCalls
pub mod OfEvents
pub mod OfHeads
pub mod OfIndex
mod OfLatches
pub mod OfMail
pub mod OfRecords
pub mod OfResults
pub mod OfSeen
pub mod Below
