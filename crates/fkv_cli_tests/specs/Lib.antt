pub mod Said
pub mod Shelves
