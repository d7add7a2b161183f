-- What crates above name of `law_commit`.
pub use Rattle.law_commit.proofs.Shown
