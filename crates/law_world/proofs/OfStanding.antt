mod Flushed
mod Fronts
mod Moments
pub mod Runs
pub mod SlotPlaces
mod Stepped
mod Turned
mod WritesStepped
mod Written
