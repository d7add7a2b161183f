-- What crates above name of `fkv_manifest`.
pub use Rattle.fkv_manifest.specs.Committing
pub use Rattle.fkv_manifest.specs.Gating
pub use Rattle.fkv_manifest.specs.Kept
pub use Rattle.fkv_manifest.specs.Made
pub use Rattle.fkv_manifest.specs.Newest
pub use Rattle.fkv_manifest.specs.declared.answers.WriteAnswer
pub use Rattle.fkv_manifest.specs.declared.commits.Committing as TheCommitting
pub use Rattle.fkv_manifest.specs.declared.gates.Gating as TheGating
