-- What crates above name of `fkv_filling`.
pub use Rattle.fkv_filling.specs.Filled
pub use Rattle.fkv_filling.specs.OpeningIndex
