pub mod Counted
pub mod Effects
pub mod Lives
pub mod Once
pub mod Waiting
pub mod Written
