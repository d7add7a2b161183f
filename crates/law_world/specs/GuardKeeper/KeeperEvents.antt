-- What each step of the keeper is to the guard: the events of the actor of this number, the newest first.
use Rattle.std.specs.Prelude.{ℕ, if◌then◌else◌, Bool, List, [], ◌∷◌, Option, Some, None}
use Rattle.fkv_base.specs.declared.shapes.Shape.{Shape}
use Rattle.fkv_disk.specs.Calls.{Call}
use Rattle.fkv_plane.specs.declared.asks.Ask.{Ask}
use Rattle.fkv_plane.specs.declared.asks.Ask.TheVariants.{Done}
use Rattle.fkv_plane.specs.declared.places.Places.{Places}
use Rattle.fkv_plane.specs.Asked.{reply_to}
use Rattle.fkv_epoch.specs.EpochWorld.{ToScan}
use Rattle.fkv_flush.specs.GuardWorld.{GuardEvent, GuardTask, Begins, CallsElse, ToDo, ToServe}
use Rattle.fkv_manifest.specs.Committing.{commit_call}
use Rattle.fkv_keeper.specs.declared.answers.KeeperTold.{KeeperTold}
use Rattle.fkv_keeper.specs.declared.answers.KeeperTold.TheVariants.{Device}
use Rattle.fkv_keeper.specs.declared.keepers.Keeping.{Keeping}
use Rattle.fkv_keeper.specs.declared.keepers.Keeping.TheVariants as keeping
use Rattle.fkv_keeper.specs.Keeping.{KeeperState, serves_alone, keeper_ask, keeper_next}
use Rattle.fkv_keeper.specs.KeeperRun.{is_in_hand}
use Rattle.law_world.specs.GuardKeeper.CommitEvents.{enter_begins, seek_begins, starting_events, entering_events, seeking_events, finishing_events}
use Rattle.law_world.specs.GuardKeeper.MaintainEvents.{maintain_events, maintain_called_events}

-- what the phase calls for may seek a slot at once
abbrev pub part_begins : ℕ → KeeperState → Keeping → List GuardEvent
part_begins a s keeping.Enters = enter_begins a s.enter.step
part_begins a s keeping.Seeks = seek_begins a s.seek.step
part_begins a s step = []

-- a reply, and whether memory is granted where it leads to a copy
unfoldable pub keeping_events : ℕ → Shape → Places → KeeperState → Keeping → ℕ → Bool → List GuardEvent
keeping_events a shape p s keeping.Starts reply granted = starting_events a s.start s.start.step reply
keeping_events a shape p s keeping.Maintains reply granted = maintain_events a shape p s.maintain s.maintain.step reply
keeping_events a shape p s keeping.LoadsPhase reply granted =
    part_begins a (keeper_next shape p (record s { step = keeping.LoadsPhase }) reply granted) (keeper_next shape p (record s { step = keeping.LoadsPhase }) reply granted).step
keeping_events a shape p s keeping.Enters reply granted = entering_events a s.enter s.enter.step reply
keeping_events a shape p s keeping.Seeks reply granted = seeking_events a s.seek s.seek.step reply
keeping_events a shape p s keeping.Finishes reply granted = finishing_events a s.seek.points s.finish s.finish.step
keeping_events a shape p s step reply granted = []

-- a call of the device for the writes of a commit, which touches no record
abbrev pub write_events : Option Call → List GuardEvent
write_events None = []
write_events (Some call) = CallsElse call ∷ []

unfoldable pub keeping_called_events : ℕ → Shape → Places → KeeperState → Keeping → Bool → List ℕ → List GuardEvent
keeping_called_events a shape p s keeping.Maintains done bytes = maintain_called_events a shape p s.maintain s.maintain.step done bytes
keeping_called_events a shape p s keeping.Writes done bytes = write_events (commit_call s.writes done)
keeping_called_events a shape p s step done bytes = []

-- by what it asks
unfoldable pub keeper_events_at : ℕ → Shape → Places → Bool → Bool → List ℕ → KeeperState → List ℕ → Ask KeeperTold → List GuardEvent
keeper_events_at a shape p granted done read s words (Done Device) = keeping_called_events a shape p s s.step done read
keeper_events_at a shape p granted done read s words (Done its) = []
keeper_events_at a shape p granted done read s words ask = keeping_events a shape p s s.step (reply_to words ask) granted

-- one step of the keeper
abbrev pub keeper_move_events : ℕ → Shape → Places → Bool → Bool → List ℕ → KeeperState → List ℕ → List GuardEvent
keeper_move_events a shape p granted done read s words = keeper_events_at a shape p granted done read s words (keeper_ask shape p s)

-- A turn scans first, or serves alone, of a log that begins at this address.
abbrev pub turn_task : ℕ → Bool → GuardTask
turn_task begin alone = if alone then ToServe begin else ToDo ToScan

-- It begins where no call is in hand and the device has not failed. A commit that begins is nothing to the guard yet.
abbrev pub turn_asked_events : ℕ → KeeperState → List GuardEvent
turn_asked_events a s = if is_in_hand s.step then [] else (if s.is_broken then [] else Begins a (turn_task s.maintain.begin.0 (serves_alone s)) ∷ [])
