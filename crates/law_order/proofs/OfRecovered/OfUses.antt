pub mod Areas
pub mod New
pub mod Numbers
pub mod Old
