pub mod Forgotten
pub mod Join
pub mod Lives
pub mod Slots
