-- What crates above name of `fkv_flush`.
pub use Rattle.fkv_flush.proofs.Shown
