pub mod Firsts
pub mod Said
