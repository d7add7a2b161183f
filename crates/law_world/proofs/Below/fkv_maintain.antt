-- What crates above name of `fkv_maintain`.
pub use Rattle.fkv_maintain.proofs.Shown
