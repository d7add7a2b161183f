mod Alone
pub mod Begun
pub mod Moved
pub mod OneEvent
pub mod Tells
