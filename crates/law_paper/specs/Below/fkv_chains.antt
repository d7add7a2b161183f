-- What crates above name of `fkv_chains`.
pub use Rattle.fkv_chains.specs.Along
pub use Rattle.fkv_chains.specs.Chains
pub use Rattle.fkv_chains.specs.Entries
pub use Rattle.fkv_chains.specs.Reached
