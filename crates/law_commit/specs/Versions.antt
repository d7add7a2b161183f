pub mod Cells
pub mod Effects
pub mod Laws
pub mod Requests
pub mod Seen
