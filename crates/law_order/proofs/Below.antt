-- What crates above name of the crates below.
pub mod law_commit
pub use Rattle.law_commit.proofs.Below.fkv_keeper
pub use Rattle.law_commit.proofs.Below.fkv_session
pub use Rattle.law_commit.proofs.Below.fkv_world
pub use Rattle.law_commit.proofs.Below.law_refine
pub use Rattle.law_commit.proofs.Below.law_world
