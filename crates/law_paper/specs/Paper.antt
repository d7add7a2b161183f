pub mod Forgotten
pub mod Images
pub mod Named
pub mod Old
pub mod Opened
pub mod Slots
pub mod Stands
pub mod Values
