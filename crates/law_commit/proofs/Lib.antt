mod AllBegun
mod Begins
mod BegunStands
mod Catches
mod Counted
mod Goes
mod InRest
mod InTurn
mod Lasts
mod LifeBegun
mod Measured
mod NewestWritten
mod NextNumbers
mod OldBegins
pub mod OfCopied
pub mod OfCuts
pub mod OfDecided
pub mod OfFloor
pub mod OfLinked
pub mod OfPhases
pub mod OfPoints
pub mod OfShares
pub mod OfTold
pub mod OfQuiet
pub mod OfVersions
mod OwnTurnStores
mod PhaseStores
mod Pieces
mod Rising
mod SessionSteps
pub mod Shown
mod Sights
mod Specified
mod Stamps
mod Sweeps
mod Telling
mod ToldFinished
mod Used
mod WorkedPast
mod WorkedRuns
pub mod Below
