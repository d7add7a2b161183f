pub mod Beside
pub mod Committed
pub mod EachLife
pub mod NewLives
