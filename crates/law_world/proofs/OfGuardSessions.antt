mod Appends
mod AppendsLed
mod AppendsOuter
mod Attempts
mod AttemptsLed
pub mod AttemptsOuter
mod AttemptsSeen
mod Catches
mod CatchesLed
mod CatchesOuter
mod Epochs
pub mod Permitted
pub mod Finds
pub mod FindsOuter
pub mod Followed
mod Kept
pub mod Movers
mod NoSlots
mod Onwards
mod Outer
mod OuterAsks
pub mod InPlace
mod OwnTurns
mod OwnTurnsLed
mod OwnWords
mod Sessions
mod SessionsLed
pub mod SessionsOuter
mod SessionsSeen
mod Tries
mod TriesLed
mod TriesOuter
mod TriesSeen
pub mod TurnFollowed
mod WalksOuter
mod WalksSeen
pub mod WordsWithin
pub mod WorldSteps
pub mod WritesOpen
