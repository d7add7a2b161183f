pub mod AttemptGrows
pub mod AttemptSteps
pub mod AttemptTells
pub mod Changes
pub mod Floors
mod HeldSteps
pub mod Keeping
mod Lows
mod Made
mod MailRows
pub mod OnWay
pub mod OwnEvents
pub mod ReadAttempts
mod ReadWalks
pub mod Tells
mod Tests
pub mod TrialKept
pub mod TryBegins
mod TryEnds
pub mod TryGrows
pub mod TrySteps
mod TryWalks
pub mod WalkBegins
mod WalkKept
pub mod WalkRows
pub mod Words
