mod Buffers
mod CopyAsks
mod CopyLinks
mod CopyRuns
mod CopySteps
mod Links
mod SlotPlaces
mod Told
pub mod Shown
