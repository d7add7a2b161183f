pub mod Fronts
pub mod InOrder
pub mod Polling
mod Results
pub mod Sayings
