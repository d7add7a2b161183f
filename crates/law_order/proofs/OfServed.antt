pub mod Device
pub mod Floors
pub mod Later
pub mod Served
