mod Answers
mod Coming
pub mod Life
pub mod LifeNumbers
pub mod LifeReads
mod Moved
pub mod Numbers
mod ReadEnds
pub mod Settled
pub mod Spared
mod Steps
mod Touched
pub mod Turns
