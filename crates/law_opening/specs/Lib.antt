pub mod Below
pub mod Changes
pub mod Lives
pub mod Log
