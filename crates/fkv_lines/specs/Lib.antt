pub mod Calls
pub mod Lines
pub mod Numbers
pub mod Reading
pub mod Script
pub mod Words
