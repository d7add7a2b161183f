-- What crates above name of the crates below.
pub mod law_refine
pub use Rattle.law_refine.proofs.Below.fkv_checkpoint
pub use Rattle.law_refine.proofs.Below.fkv_commit
pub use Rattle.law_refine.proofs.Below.fkv_keeper
pub use Rattle.law_refine.proofs.Below.fkv_ops
pub use Rattle.law_refine.proofs.Below.fkv_pending
pub use Rattle.law_refine.proofs.Below.fkv_session
pub use Rattle.law_refine.proofs.Below.fkv_world
pub use Rattle.law_refine.proofs.Below.law_local
pub use Rattle.law_refine.proofs.Below.law_world
