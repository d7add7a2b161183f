pub mod Inputs
pub mod Known
pub mod Moves
