pub mod Cells
pub mod Changes
pub mod Frames
pub mod Headers
pub mod Laws
pub mod Warm
