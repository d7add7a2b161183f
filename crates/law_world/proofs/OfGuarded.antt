pub mod BelowTail
pub mod Ends
pub mod Permitted
pub mod ReadSlots
pub mod Reads
pub mod FewAsks
pub mod FewKeeperAsks
pub mod Flushed
pub mod KeeperPlaces
mod KeeperSeeks
pub mod KeeperSteps
pub mod Kept
pub mod LifeCalls
pub mod LoadedSince
pub mod OfLives
pub mod OneStep
pub mod Outer
mod PastCalls
mod SessionCalls
mod SessionSteps
pub mod Sleepers
pub mod Slots
pub mod SlotsApart
mod SlotsHeld
pub mod SweepPlaces
pub mod WordsWithin
pub mod Worlds
