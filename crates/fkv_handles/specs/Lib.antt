pub mod Below
pub mod Handles
pub mod Kept
pub mod Laid
pub mod Opens
pub mod Said
pub mod Sittings
