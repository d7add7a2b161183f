mod Along
mod Carried
mod Elsewhere
mod Following
mod NewestSlot
mod Noting
mod Order
mod Putting
mod Settled
pub mod Shown
mod Spelled
mod Stages
mod Tearing
mod ToCome
