-- What crates above name of `fkv_core`.
pub use Rattle.fkv_core.specs.Openings
pub use Rattle.fkv_core.specs.Worlds
pub use Rattle.fkv_core.specs.declared.events.Event
pub use Rattle.fkv_core.specs.declared.events.Told as TheTold
