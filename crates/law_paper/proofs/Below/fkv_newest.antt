-- What crates above name of `fkv_newest`.
pub use Rattle.fkv_newest.proofs.Shown
