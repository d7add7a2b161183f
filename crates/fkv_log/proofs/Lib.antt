mod Asks
mod AsksLeft
mod NestedLeft
mod Records
mod Reserved
pub mod Shown
mod Turned
mod Written
