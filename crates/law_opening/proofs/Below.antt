-- What crates above name of the crates below.
pub use Rattle.law_paper.proofs.Below.fkv_newest
pub use Rattle.law_refine.proofs.Below.fkv_session
pub use Rattle.law_refine.proofs.Below.fkv_world
pub use Rattle.law_refine.proofs.Below.law_world
