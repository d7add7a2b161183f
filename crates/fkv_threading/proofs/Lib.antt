pub mod Program
pub mod Refused
pub mod Told
pub mod Written
