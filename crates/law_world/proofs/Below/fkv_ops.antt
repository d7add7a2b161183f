-- What crates above name of `fkv_ops`.
pub use Rattle.fkv_ops.proofs.Shown
