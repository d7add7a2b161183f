pub mod Course
pub mod Fetching
pub mod Hot
pub mod Mailbox
pub mod Memory
pub mod Met
pub mod Refreshes
pub mod Standing
