pub mod Crashed
pub mod Holds
pub mod Leaves
pub mod Parts
pub mod Points
pub mod Shows
