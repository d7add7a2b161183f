mod BeginKept
mod FlushRests
mod GoesOn
mod MaintainLeft
mod PartsDriven
mod PartsFollow
mod PartsInOrder
mod ReadsAbove
pub mod Shown
mod TakesNone
