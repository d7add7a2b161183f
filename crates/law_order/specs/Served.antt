pub mod Fits
pub mod Laws
pub mod Served
