-- What crates above name of the crates below.
pub use Rattle.law_threads.proofs.Below.fkv_table
