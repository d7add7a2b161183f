mod Apart
mod Bits
mod Large
mod Said
mod Spelled
pub mod Shown
