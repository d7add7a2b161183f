pub mod AttemptAnswers
pub mod AttemptAsks
pub mod AttemptEffects
pub mod AttemptPuts
pub mod AttemptRests
pub mod AttemptRuns
pub mod AttemptSpares
pub mod AttemptTries
pub mod Boxes
mod Gone
pub mod MailAsks
pub mod MailRuns
pub mod MailSound
mod Requests
pub mod Shown
