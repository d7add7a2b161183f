pub mod Firsts
pub mod Opened
pub mod Order
pub mod Shown
