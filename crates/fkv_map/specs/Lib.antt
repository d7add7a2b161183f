pub mod Fits
pub mod History
pub mod Keys
pub mod Laws
pub mod Map
