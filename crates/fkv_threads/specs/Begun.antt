-- How a table's sessions and its keeper begin.
use Rattle.std.specs.Prelude.{◌≡◌, ℕ, false, List, [], Some, slice_get}
use Rattle.atomic_table.specs.Seated.{TableId}
use Rattle.atomic_table.specs.Table.{Me}
use Rattle.fkv_keeper.specs.Keeping.{KeeperModel}
use Rattle.fkv_opening.specs.declared.opened_store.Opened.{Opened}
use Rattle.fkv_session.specs.declared.answers.Finished.{Finished}
use Rattle.fkv_session.specs.Sessions.{Sitter}
use Rattle.law_threads.specs.Below.fkv_world.Runs.{World}
use Rattle.law_threads.specs.Below.fkv_table.Calls.{IsReady}
use Rattle.law_threads.specs.Below.fkv_table.Desks.{Slot, Knows}
use Rattle.law_threads.specs.Below.fkv_table.Keeps.{IsKeeperReady}
use Rattle.law_threads.specs.Calls.{IsOver}
use Rattle.fkv_threads.specs.Models.{Sitting, Watch}

module _ {K : Type 0} (at : K → World) where
  -- the table lies over the world with which this store begins, that these bytes hold
  abbrev pub IsOverStore : K → Opened → List ℕ → Type 0
  IsOverStore key o bytes = IsOver at key o (at key).now bytes

  -- A session with this number is ready with its pass, which has seen nothing.
  pub record HasBegun (key : K) (table : TableId) (number : ℕ) (m : Sitter) (desk : ℕ) (seat : TableId) (me : Me Slot (Knows K)) : Type 0 where
    pub ready : IsReady at key table seat me m desk
    pub numbered : m.seat.number ≡ number
    pub nothing_seen : me.0.seen ≡ []

  -- So is the keeper.
  pub record KeeperHasBegun (key : K) (table : TableId) (k : KeeperModel) (seat : TableId) (me : Me Slot (Knows K)) : Type 0 where
    pub ready : IsKeeperReady at key table seat me k
    pub nothing_seen : me.0.seen ≡ []

-- ---- those who sit at it
-- at each place a session of that number sits at the table, which has seen nothing
abbrev pub AreFirst : {K : Type 0} → K → TableId → List (Sitting K) → Type 0
AreFirst {K} key table places = (i : ℕ) (its : Sitting K) → slice_get places i ≡ Some its
    → (finished : List Finished) × (its ≡ record { key = key; table = table; number = i; seen = []; finished = finished })

-- the keeper has seen nothing, and no turn is in hand
pub record IsFirstWatch {K D : Type 0} (key : K) (table : TableId) (medium : D) (w : Watch K D) : Type 0 where
  pub its_key : w.key ≡ key
  pub its_table : w.table ≡ table
  pub nothing_seen : w.seen ≡ []
  pub device : w.device ≡ medium
  pub idle : w.in_turn ≡ false
