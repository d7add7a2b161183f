pub mod Open
pub mod Pages
