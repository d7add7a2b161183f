pub mod Calls
pub mod Claims
pub mod Keys
pub mod Logs
pub mod Reports
pub mod Served
