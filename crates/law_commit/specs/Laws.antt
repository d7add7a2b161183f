pub mod Copied
pub mod Cuts
pub mod Linked
pub mod Pasts
pub mod Phases
