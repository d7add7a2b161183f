-- What crates above name of `fkv_chains`.
pub use Rattle.fkv_chains.proofs.Shown
