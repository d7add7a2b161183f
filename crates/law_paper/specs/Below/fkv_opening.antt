-- What crates above name of `fkv_opening`.
pub use Rattle.fkv_opening.specs.Alike
pub use Rattle.fkv_opening.specs.Entries
pub use Rattle.fkv_opening.specs.Faults
pub use Rattle.fkv_opening.specs.Lost
pub use Rattle.fkv_opening.specs.Opened
pub use Rattle.fkv_opening.specs.Opening
pub use Rattle.fkv_opening.specs.Warm
pub use Rattle.fkv_opening.specs.declared.opened_store.Opened as TheOpened
pub use Rattle.fkv_opening.specs.declared.opening_words.SessionWords
