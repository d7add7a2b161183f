pub mod Laws
pub mod Made
pub mod OpenedFrom
pub mod Reaching
pub mod Steps
