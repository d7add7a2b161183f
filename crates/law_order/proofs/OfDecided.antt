pub mod Covers
pub mod Cut
pub mod Old
pub mod Opens
