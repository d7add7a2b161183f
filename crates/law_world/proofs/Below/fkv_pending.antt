-- What crates above name of `fkv_pending`.
pub use Rattle.fkv_pending.proofs.Shown
