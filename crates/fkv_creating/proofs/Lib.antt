mod Counting
mod Entryless
mod Filling
mod Laying
mod Moving
mod Newly
mod Noting
pub mod NewStores
pub mod OnlyNew
mod Outcome
mod Sound
mod Suiting
