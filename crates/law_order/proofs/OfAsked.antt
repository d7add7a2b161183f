mod Askers
mod Attempts
mod Facts
pub mod Life
mod Moved
mod Past
mod Sitting
mod Told
mod Tries
