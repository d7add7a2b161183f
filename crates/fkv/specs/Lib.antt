pub mod AllLives
pub mod Lives
pub mod Media
pub mod Replies
pub mod Said
