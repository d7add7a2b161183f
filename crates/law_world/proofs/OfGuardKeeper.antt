pub mod Asked
mod Begun
mod Claimed
mod CommitPuts
mod Deferred
mod EndKept
mod Ends
mod EnterKept
mod Entered
pub mod Finds
mod Finished
mod Flushed
mod FlushStays
pub mod Goes
mod HandsOver
mod KeeperLed
mod Kept
mod Led
mod Maintained
mod Movers
pub mod NoCalls
mod PartLed
mod PhaseKept
pub mod Puts
mod Quiet
mod Scanned
mod SeekKept
mod Served
mod Shifted
mod SlotAtRest
pub mod Slots
mod Sought
pub mod SparedWrites
mod StartKept
mod Started
pub mod StepCalls
mod TurnKept
mod TurnLed
mod Turned
pub mod WordsWithin
pub mod WorldKept
pub mod WritesOpen
