pub mod Beginning
pub mod Cuts
pub mod Decided
pub mod InTime
pub mod Kept
pub mod Points
mod ReadRuns
pub mod SameEntries
pub mod Versions
pub mod WaitingInTime
pub mod Words
