mod Alike
mod Counting
mod Down
pub mod Forgotten
mod Here
pub mod Named
pub mod Old
pub mod Opened
mod Reach
pub mod Room
pub mod SameValues
pub mod Sound
pub mod Stored
mod Values
