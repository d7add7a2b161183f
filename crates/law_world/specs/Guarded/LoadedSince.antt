-- What sessions go by, at a moment of the guard's world.
use Rattle.std.specs.Prelude.{ℕ}
use Rattle.fkv_epoch.specs.Once.{InForceSinceRaise, SeenSinceRaise}
use Rattle.fkv_flush.specs.GuardWorld.{GuardWorld, epoch_world}

-- Each value by which a protected session goes was loaded after this epoch was raised: by its last load, and by the load in force, which while a refresh is
-- under way is the one before. A session in the middle of protecting itself goes by none that it has yet to load.
abbrev pub HaveLoadedSince : GuardWorld → ℕ → Type 0
HaveLoadedSince w epoch = SeenSinceRaise (epoch_world w) epoch × InForceSinceRaise (epoch_world w) epoch
