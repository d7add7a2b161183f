mod Begins
mod Calls
mod Chains
mod Changed
mod Held
mod InOrder
mod Lists
mod LogSteps
mod Published
mod Readings
pub mod Shown
mod Sound
mod Steps
mod Upto
mod Versions
mod Walks
mod Worked
