pub mod OfApart
mod OfAsked
mod OfCopies
mod OfDecided
mod OfEnabled
mod OfImages
mod OfKnown
mod OfLooks
pub mod OfOneHistory
mod OfOrdered
pub mod OfPrefix
pub mod OfReads
mod OfRecovered
mod OfRows
pub mod OfRules
mod OfServed
mod OfShifts
mod OfSwept
pub mod OfTickets
mod OfTold
mod OfTruth
pub mod Below
