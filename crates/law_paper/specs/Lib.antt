pub mod Apart
pub mod Below
pub mod Kept
pub mod Paper
pub mod Phases
