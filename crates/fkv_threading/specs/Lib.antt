pub mod Program
pub mod Refused
pub mod Said
pub mod Told
pub mod Written
