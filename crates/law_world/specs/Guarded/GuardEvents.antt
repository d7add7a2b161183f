-- What each event of the engine's world is to the guard: a list of events there, the newest first. Sessions are the first of the guard's actors, and
-- the two behind them are the keeper's.
use Rattle.std.specs.Prelude.{ℕ, suc, if◌then◌else◌, List, [], ◌∷◌, ◌++◌, slice_get, Option, Some, None}
use Rattle.fkv_map.specs.declared.operations.Call.{Call}
use Rattle.fkv_flush.specs.GuardWorld.{GuardEvent}
use Rattle.fkv_session.specs.Sessions.{SessionState, is_busy, session_begun}
use Rattle.law_world.specs.GuardSessions.Sessions.{session_guard_events, called_guard_events}
use Rattle.law_world.specs.GuardKeeper.KeeperActors.{keeper_actor}
use Rattle.law_world.specs.GuardKeeper.KeeperEvents.{keeper_move_events, turn_asked_events}
use Rattle.fkv_world.specs.World.{Event, Calls, Moves, Commits, Turns, KeeperMoves, Crashes, Now, seat_at, near}
use Rattle.fkv_world.specs.Moves.{session_moved}
use Rattle.fkv_world.specs.Runs.{World, run, read_by_keeper}

-- a session makes its ask
abbrev pub moved_events : Now → ℕ → Option SessionState → List GuardEvent
moved_events n session None = []
moved_events n session (Some s) = session_guard_events (seat_at n session) n.words s (session_moved (seat_at n session) (near n s)).machine

-- a call begins, where none is in hand
abbrev pub called_events : Now → ℕ → Call → Option SessionState → List GuardEvent
called_events n session call None = []
called_events n session call (Some s) = if is_busy s.step then [] else called_guard_events (seat_at n session) (session_begun (seat_at n session) s call)

-- the number of the keeper's first actor among the guard's, and of the one that works for it
abbrev pub keeper_number : Now → ℕ
keeper_number n = n.places.sessions

abbrev pub keeper_now : Now → ℕ
keeper_now n = keeper_actor (keeper_number n) n.keeper

-- how many actors the guard has
abbrev pub actor_count : Now → ℕ
actor_count n = suc (suc (keeper_number n))

-- `read` is what a read of the device gives, where the keeper makes one
unfoldable pub life_events : Now → List ℕ → Event → List GuardEvent
life_events n read (Calls session call) = called_events n session call (slice_get n.sessions session)
life_events n read (Moves session) = moved_events n session (slice_get n.sessions session)
life_events n read (Commits kind) = []
life_events n read Turns = turn_asked_events (keeper_now n) n.keeper
life_events n read (KeeperMoves granted done) = keeper_move_events (keeper_now n) n.shape n.places granted done read n.keeper n.words
life_events n read Crashes = []

-- what an event is to the guard; after a crash nothing is
abbrev pub guard_events : Now → List ℕ → Event → List GuardEvent
guard_events n read event = if n.crashed then [] else life_events n read event

-- and what a life is, beside its run
unfoldable pub mapped : World → List Event → List GuardEvent
mapped opening [] = []
mapped opening (event ∷ before) = guard_events (run opening before).now (read_by_keeper (run opening before)) event ++ mapped opening before
