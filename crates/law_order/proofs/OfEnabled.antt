pub mod Changes
mod InHand
pub mod Own
mod Ready
mod Tries
