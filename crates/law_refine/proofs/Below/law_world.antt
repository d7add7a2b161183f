-- What crates above name of `law_world`.
pub use Rattle.law_world.proofs.OfGuardSessions
pub use Rattle.law_world.proofs.OfGuarded
pub use Rattle.law_world.proofs.OfKeeper
pub use Rattle.law_world.proofs.OfRuns
pub use Rattle.law_world.proofs.OfSessions
pub use Rattle.law_world.proofs.OfStanding
