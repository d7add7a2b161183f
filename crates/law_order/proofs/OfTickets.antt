mod Apart
pub mod Begun
pub mod Events
pub mod Life
pub mod Tickets
