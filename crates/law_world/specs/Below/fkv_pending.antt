-- What crates above name of `fkv_pending`.
pub use Rattle.fkv_pending.specs.Attempting
pub use Rattle.fkv_pending.specs.MailWorld
pub use Rattle.fkv_pending.specs.Mailbox
pub use Rattle.fkv_pending.specs.Mailing
pub use Rattle.fkv_pending.specs.Pending
pub use Rattle.fkv_pending.specs.declared.attempting.Attempting as TheAttempting
pub use Rattle.fkv_pending.specs.declared.mailing.MailAnswer
pub use Rattle.fkv_pending.specs.declared.mailing.MailRecord
pub use Rattle.fkv_pending.specs.declared.mailing.MailTask
pub use Rattle.fkv_pending.specs.declared.mailing.Mailing as TheMailing
pub use Rattle.fkv_pending.specs.declared.pending_requests.PendingRequest
pub use Rattle.fkv_pending.specs.declared.pending_requests.RequestName
pub use Rattle.fkv_pending.specs.declared.pending_requests.Ticket
