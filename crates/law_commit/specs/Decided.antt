pub mod Below
pub mod Cells
pub mod Ended
pub mod Later
pub mod Laws
