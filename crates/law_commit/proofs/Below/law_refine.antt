-- What crates above name of `law_refine`.
pub use Rattle.law_refine.proofs.OfCalls
pub use Rattle.law_refine.proofs.OfEvents
pub use Rattle.law_refine.proofs.OfHeads
pub use Rattle.law_refine.proofs.OfIndex
pub use Rattle.law_refine.proofs.OfMail
pub use Rattle.law_refine.proofs.OfRecords
pub use Rattle.law_refine.proofs.OfResults
pub use Rattle.law_refine.proofs.OfSeen
