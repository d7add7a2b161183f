-- Lives in which a read of the device gives anything. So it may be if the device isn't honest, as a file.
use Rattle.std.specs.Prelude.{◌≡◌, ⊤, ℕ, List, [], ◌∷◌}
use Rattle.fkv_flush.specs.GuardWorld.{GuardWorld, guard_run}
use Rattle.fkv_world.specs.Runs.{World, read_by_keeper, run}
use Rattle.fkv_world.specs.World.{Event, Now, happens_now}
use Rattle.law_world.specs.Guarded.GuardEvents.{guard_events}
use Rattle.law_world.specs.Guarded.Shows.{guard_opening}

-- an event, and what a read of the device gives in it, if the keeper makes one
pub record Heard : Type 0 where
  pub event : Event
  pub read : List ℕ

-- the world after such a list, the newest first
unfoldable pub heard_run : Now → List Heard → Now
heard_run opening [] = opening
heard_run opening (it ∷ before) = happens_now (heard_run opening before) it.read it.event

-- its events alone
abbrev pub events_heard : List Heard → List Event
events_heard [] = []
events_heard (it ∷ before) = it.event ∷ events_heard before

-- Each read gives what the life's device holds, by the bytes with which the life began and by its calls so far.
abbrev pub AreAsHeld : World → List Heard → Type 0
AreAsHeld opening [] = ⊤
AreAsHeld opening (it ∷ before) = (it.read ≡ read_by_keeper (run opening (events_heard before))) × AreAsHeld opening before

-- A list that has these events, each of whose reads gives that.
pub record IsHeardAsHeld (opening : World) (events : List Event) (list : List Heard) : Type 0 where
  pub same : events_heard list ≡ events
  pub held : AreAsHeld opening list

-- what the guard has of such a life
unfoldable pub guard_heard : Now → ℕ → List Heard → GuardWorld
guard_heard opening start [] = guard_opening opening start
guard_heard opening start (it ∷ before) = guard_run (guard_heard opening start before) (guard_events (heard_run opening before) it.read it.event)
