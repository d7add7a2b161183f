pub mod MailEvents
pub mod Mailers
pub mod Reads
pub mod Servers
pub mod Shows
pub mod Stood
