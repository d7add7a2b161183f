mod Counted
pub mod Given
pub mod InCall
mod MadeInCall
mod OwnCall
pub mod There
