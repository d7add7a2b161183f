pub mod Fits
pub mod Images
pub mod Laws
pub mod Linked
pub mod Lives
