pub mod Compared
mod Pushed
pub mod Served
pub mod Unapplied
