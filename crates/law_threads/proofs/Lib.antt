pub mod Below
mod Course
mod Histories
mod KeeperKinds
mod Numbers
mod OfDone
mod OfDurable
mod OfFinishes
mod OfImages
mod OfKinds
mod OfLaws
mod OfPolls
mod OfReads
mod OfRefusals
mod OfRuns
mod OfTickets
mod OfTurns
