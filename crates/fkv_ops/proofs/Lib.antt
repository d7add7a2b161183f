pub mod AppendAsks
pub mod AppendRests
pub mod AsksLeft
mod Appended
mod Balances
mod BoolTests
mod ChainEnds
mod Copied
mod EachAsk
mod Effected
mod GivenBack
mod LatchRuns
mod LatchShares
mod Searched
mod SpareAsks
mod SpareRuns
mod Tried
mod TryRows
mod TryRuns
mod TrySteps
mod Walked
pub mod Shown
pub mod TryAsks
pub mod TryRests
pub mod WalkAsks
pub mod WalkRests
