pub mod AttemptMails
pub mod Life
pub mod SessionMails
