pub mod Marks
pub mod Window
