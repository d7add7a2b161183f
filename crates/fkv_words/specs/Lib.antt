pub mod Fields
pub mod Home
pub mod Layout
pub mod PhaseWords
pub mod Phases
