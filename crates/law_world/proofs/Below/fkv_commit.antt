-- What crates above name of `fkv_commit`.
pub use Rattle.fkv_commit.proofs.Shown
