-- What crates above name of `fkv_scan`.
pub use Rattle.fkv_scan.proofs.Shown
