-- What crates above name of `law_local`.
pub use Rattle.law_local.proofs.OfSessions
pub use Rattle.law_local.proofs.OfTries
