pub mod Answered
pub mod Effects
