-- What crates above name of `fkv_creating`.
pub use Rattle.fkv_creating.specs.Created
pub use Rattle.fkv_creating.specs.Long
