-- A store that was just opened, with its device.
use Rattle.std.specs.Prelude.{◌≡◌, ℕ, []}
use Rattle.fkv_world.specs.Runs.{World}
use Rattle.law_world.specs.Guarded.Shows.{IsOpened}

-- It begins so, nothing has been called of the device yet, and the index has the overflow buckets of the shape.
pub record IsOpenedStore (w : World) (start : ℕ) : Type 0 where
  pub now : IsOpened w.now start
  pub no_calls : w.past.calls ≡ []
  pub overflow : w.now.places.overflow ≡ w.now.shape.overflow
