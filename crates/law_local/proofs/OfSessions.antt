pub mod AttemptInputs
pub mod Known
pub mod Lists
pub mod Moves
pub mod Names
pub mod SessionInputs
mod TryInputs
mod WalkInputs
