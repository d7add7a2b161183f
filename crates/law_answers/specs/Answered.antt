pub mod Answers
pub mod Beginnings
pub mod Calls
pub mod Laws
pub mod Lives
