pub mod Given
pub mod Lives
