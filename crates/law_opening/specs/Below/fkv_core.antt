-- What crates above name of `fkv_core`.
pub use Rattle.fkv_core.specs.Alone
pub use Rattle.fkv_core.specs.Lives
pub use Rattle.fkv_core.specs.OpeningPlaces
pub use Rattle.fkv_core.specs.OpeningWords
pub use Rattle.fkv_core.specs.Openings
pub use Rattle.fkv_core.specs.Showing
pub use Rattle.fkv_core.specs.Told
pub use Rattle.fkv_core.specs.Unswept
pub use Rattle.fkv_core.specs.Worlds
pub use Rattle.fkv_core.specs.declared.events.Actor
pub use Rattle.fkv_core.specs.declared.events.Event
pub use Rattle.fkv_core.specs.declared.events.Told as TheTold
