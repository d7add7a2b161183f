pub mod OnPaper
pub mod Stands
