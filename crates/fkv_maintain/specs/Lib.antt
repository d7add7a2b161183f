pub mod AsksLeft
pub mod MaintainRun
pub mod Maintaining
pub mod Parts
