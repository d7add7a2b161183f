pub mod Began
pub mod BegunFor
pub mod Commits
pub mod Covers
pub mod HomesApart
mod Keepers
pub mod Leads
pub mod Lives
pub mod Sound
