pub mod Alone
mod AttemptsMove
mod AttemptsSince
mod CatchesSince
pub mod Enters
mod Fits
mod Holders
pub mod Just
pub mod Leaving
pub mod Onward
pub mod Prepared
pub mod SessionsMove
mod SessionsSince
pub mod Since
mod TriesMove
mod Waiting
