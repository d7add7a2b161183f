mod OfApart
mod OfKept
mod OfPaper
mod OfPhases
pub mod Below
pub mod Reached
