pub mod CommitStands
pub mod GuardOpens
pub mod IndexOpens
pub mod LatchesOpen
pub mod Led
pub mod LongOpens
pub mod MadeSteps
pub mod SlotNamed
pub mod ToldOpens
pub mod Warm
mod Words
pub mod WorldOpens
