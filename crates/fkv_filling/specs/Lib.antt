pub mod Filled
pub mod OpeningIndex
