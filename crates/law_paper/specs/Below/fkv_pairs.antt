-- What crates above name of `fkv_pairs`.
pub use Rattle.fkv_pairs.specs.Pairs
