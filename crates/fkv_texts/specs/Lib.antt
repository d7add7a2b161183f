pub mod Keeper
pub mod Lines
pub mod Polls
pub mod Refusals
pub mod Reports
pub mod Sessions
