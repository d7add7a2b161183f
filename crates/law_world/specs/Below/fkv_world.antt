-- What crates above name of `fkv_world`.
pub use Rattle.fkv_world.specs.Actors
pub use Rattle.fkv_world.specs.Moves
pub use Rattle.fkv_world.specs.Opened
pub use Rattle.fkv_world.specs.OwnEvents
pub use Rattle.fkv_world.specs.Past
pub use Rattle.fkv_world.specs.Runs
pub use Rattle.fkv_world.specs.World
