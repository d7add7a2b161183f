pub mod Durable
pub mod Law
pub mod Slots
pub mod Stores
