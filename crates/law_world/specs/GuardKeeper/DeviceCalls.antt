-- The writes and syncs of the keeper, as the guard has them.
use Rattle.std.specs.Prelude.{◌≡◌, ℕ, Bool, true, List, [], Option, Some, None, ⊤}
use Rattle.fkv_base.specs.declared.shapes.Shape.{Shape}
use Rattle.fkv_disk.specs.Calls.{Call}
use Rattle.fkv_flush.specs.GuardFlushed.{calls_made, spares_log}
use Rattle.fkv_flush.specs.GuardSeen.{LastSeen}
use Rattle.fkv_flush.specs.GuardWorld.{Actor, GuardWorld}
use Rattle.fkv_manifest.specs.Committing.{commit_call}
use Rattle.fkv_keeper.specs.declared.keepers.Keeping.{Keeping}
use Rattle.fkv_keeper.specs.declared.keepers.Keeping.TheVariants.{Writes}
use Rattle.fkv_keeper.specs.Keeping.{KeeperState, keeper_ask}
use Rattle.fkv_keeper.specs.KeeperAsks.{keeper_calls}
use Rattle.fkv_world.specs.Past.{calls_after}
use Rattle.law_world.specs.GuardKeeper.Followed.{IsKeepers}
use Rattle.law_world.specs.GuardKeeper.KeeperEvents.{keeper_move_events}

-- if a call is made, it is a sync or ends where the log begins
abbrev pub SparesLog : Shape → Option Call → Type 0
SparesLog shape None = ⊤
SparesLog shape (Some call) = spares_log shape call ≡ true

-- so it is with the call that the writes of a commit have come to
abbrev pub WritesSpareLog : Shape → KeeperState → Keeping → Type 0
WritesSpareLog shape s Writes = (done : Bool) → SparesLog shape (commit_call s.writes done)
WritesSpareLog shape s step = ⊤

-- The guard's events of a step of the keeper make the write or sync that the keeper makes, with the same success, and no other.
abbrev pub MakeItsCalls : Type 0
MakeItsCalls = (w : GuardWorld) (a : ℕ) (x : Actor) (seen : LastSeen) (s : KeeperState) (granted done : Bool) (read : List ℕ) → IsKeepers w a x seen s → WritesSpareLog w.now.shape s s.step
    → calls_made w (keeper_move_events a w.now.shape w.now.places granted done read s w.now.words) ≡ calls_after (keeper_ask w.now.shape w.now.places s) (keeper_calls w.now.shape s done) []
