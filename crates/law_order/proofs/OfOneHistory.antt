pub mod CommittedLives
mod CommittedRun
mod CommittedWorld
pub mod EachLife
pub mod History
pub mod InVersions
pub mod NewLives
pub mod StaysLive
mod WorkedEffects
pub mod WorkedLives
pub mod WorkedShape
mod WorkedWorld
