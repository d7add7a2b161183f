pub mod Floors
pub mod Ordered
pub mod Met
pub mod Tries
pub mod Waits
pub mod Seeking
