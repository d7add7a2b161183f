pub mod Bytes
pub mod Image
pub mod Mailboxes
pub mod Openings
pub mod There
pub mod Words
