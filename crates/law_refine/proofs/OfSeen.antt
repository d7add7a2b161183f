pub mod Alone
mod Catches
pub mod Floors
mod Heads
pub mod HeadStays
pub mod Lives
pub mod Ops
mod ShiftTargets
pub mod There
