-- What crates above name of `fkv_session`.
pub use Rattle.fkv_session.proofs.Shown
