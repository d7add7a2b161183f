-- What crates above name of `fkv_world`.
pub use Rattle.fkv_world.proofs.Shown
