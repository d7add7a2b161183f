-- What crates above name of `fkv_checkpoint`.
pub use Rattle.fkv_checkpoint.specs.Copied
pub use Rattle.fkv_checkpoint.specs.CopyWorld
pub use Rattle.fkv_checkpoint.specs.Copying
pub use Rattle.fkv_checkpoint.specs.Fuzzy
pub use Rattle.fkv_checkpoint.specs.Triples
pub use Rattle.fkv_checkpoint.specs.declared.copying.CopyStep
pub use Rattle.fkv_checkpoint.specs.declared.copying.Copying as TheCopying
