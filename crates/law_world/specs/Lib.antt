pub mod Below
pub mod GuardKeeper
pub mod GuardSessions
pub mod Guarded
pub mod Keeper
pub mod Runs
pub mod Standing
