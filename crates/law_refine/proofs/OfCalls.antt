pub mod Called
pub mod InHand
pub mod Life
pub mod LifeHistory
pub mod MadeBy
pub mod Named
mod Once
pub mod SameHistory
mod Standing
pub mod Telling
pub mod UpdateLines
