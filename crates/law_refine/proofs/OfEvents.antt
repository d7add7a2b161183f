pub mod Apart
mod AppendSteps
mod AttemptEffects
mod AttemptSteps
pub mod Below
mod Between
pub mod EventEffects
pub mod Fixed
pub mod Looks
pub mod Own
pub mod ReadTries
pub mod RequestNames
mod ReservedCells
pub mod ReservedLife
pub mod Searches
pub mod SessionEffects
pub mod SessionSteps
pub mod Taking
pub mod Trace
pub mod TryAppends
mod TryEffects
mod TrySteps
pub mod Unborn
pub mod Worked
