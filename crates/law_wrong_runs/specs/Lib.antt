pub mod Said
pub mod ShortImages
pub mod Tables
pub mod WrongCommits
pub mod WrongImages
pub mod WrongLives
pub mod WrongPrefixes
