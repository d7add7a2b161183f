pub mod Fault
pub mod Limits
pub mod Phase
