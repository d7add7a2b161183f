-- What crates above name of `law_world`.
pub use Rattle.law_world.specs.GuardKeeper
pub use Rattle.law_world.specs.GuardSessions
pub use Rattle.law_world.specs.Guarded
pub use Rattle.law_world.specs.Keeper
pub use Rattle.law_world.specs.Runs
pub use Rattle.law_world.specs.Standing
