-- A world with which a table's life begins.
use Rattle.std.specs.Prelude.{◌≡◌, ◌+◌, ◌≤◌, ℕ, length}
use Rattle.atomic_table.specs.Seated.{TableId}
use Rattle.fkv_base.specs.Limits.{drain_slots}
use Rattle.law_world.specs.Below.fkv_world.Opened.{IsOpenedWorld}
use Rattle.law_world.specs.Below.fkv_world.Runs.{World}
use Rattle.law_world.specs.Guarded.Shows.{IsOpened}
use Rattle.fkv_seats.specs.Rule.{desk_slot}
use Rattle.fkv_table.specs.Positions.{gaps}

-- The guard begins with it, its store was just opened, and its keeper seeks the points of no more sessions than there are.
pub record IsGuardedOpening (w : World) : Type 0 where
  pub start : ℕ
  pub guarded : IsOpened w.now start
  pub opened : IsOpenedWorld w
  pub seeks : w.now.keeper.seek.sessions ≤ w.now.places.sessions

-- A table over such a world: a position for each word, and behind the drain slots so many slots that each session has its desk there, and the keeper too.
pub record IsTableOf (w : World) (id : TableId) : Type 0 where
  pub opening : IsGuardedOpening w
  pub words : id.words ≡ length w.now.words + gaps
  pub slots : id.slots ≡ desk_slot drain_slots (w.now.places.sessions + 1)
