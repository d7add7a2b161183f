mod Ending
mod Faultless
mod Greatest
mod Keys
mod Knowing
mod Leading
mod Linking
mod Looping
mod Meeting
mod Meets
mod Sorting
mod Standing
mod Taking
mod Triples
mod Upwards
mod Ways
pub mod Shown
