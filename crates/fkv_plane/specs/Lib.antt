pub mod AsksLeft
pub mod Asked
pub mod Passing
pub mod Places
pub mod Plane
