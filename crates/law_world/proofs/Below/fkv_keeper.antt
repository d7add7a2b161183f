-- What crates above name of `fkv_keeper`.
pub use Rattle.fkv_keeper.proofs.Shown
