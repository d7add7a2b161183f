pub mod Committing
pub mod Devices
pub mod Gating
pub mod Kept
pub mod Made
pub mod Newest
pub mod Tearing
