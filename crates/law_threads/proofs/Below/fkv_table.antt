-- What crates above name of `fkv_table`.
pub use Rattle.fkv_table.proofs.Starts
