-- What crates above name of `fkv_checkpoint`.
pub use Rattle.fkv_checkpoint.proofs.Shown
