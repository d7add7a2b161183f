mod AppendRows
mod AttemptRows
pub mod Below
mod FrameEvents
pub mod FrameOwners
mod FrameSteps
mod FrameWords
pub mod Frames
mod GhostFits
pub mod Life
pub mod LogHeaders
mod LogShows
pub mod Meets
pub mod Numbers
mod OneEvent
pub mod Puts
mod RowsStay
mod SessionRows
pub mod Standing
mod TryRows
mod Writers
mod Wrote
