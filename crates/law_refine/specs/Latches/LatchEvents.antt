-- What each event of the engine's world is to the latches: a list of events of theirs, the newest first.
use Rattle.std.specs.Prelude.{ℕ, if◌then◌else◌, List, [], ◌∷◌, ◌++◌, slice_get, Option, Some, None}
use Rattle.fkv_plane.specs.declared.asks.Ask.{Ask}
use Rattle.fkv_plane.specs.Asked.{asked, asked_place, word_at}
use Rattle.fkv_latch.specs.declared.latching.Latching.{Latching}
use Rattle.fkv_latch.specs.declared.latching.Latching.TheVariants.{AtRest, AddsShare, DropsShare, LoadsWord, DropsExclusive}
use Rattle.fkv_latch.specs.declared.latching.LatchTask.TheVariants as task
use Rattle.fkv_latch.specs.LatchWorld as latch
use Rattle.fkv_map.specs.declared.operations.Call.{Call}
use Rattle.law_world.specs.Below.fkv_keeper.Keeping.{keeper_ask}
use Rattle.law_world.specs.Below.fkv_session.Sessions.{SessionState, is_busy, session_ask}
use Rattle.law_world.specs.Below.fkv_world.World.{Event, Calls, Moves, KeeperMoves, Now, seat_at, near, session_called}
use Rattle.law_world.specs.Below.fkv_world.Moves.{session_moved}
use Rattle.law_world.specs.Below.fkv_world.Runs.{World, run}
use Rattle.law_refine.specs.Latches.Latchers.{session_latching}

-- the task that has begun where a machine is at its first step
abbrev pub begun_at : ℕ → Latching → List latch.LatchEvent
begun_at session (AddsShare place) = latch.Begins session task.TakeShared place ∷ []
begun_at session (DropsShare place) = latch.Begins session task.DropShared place ∷ []
begun_at session (LoadsWord place) = latch.Begins session task.TakeExclusive place ∷ []
begun_at session (DropsExclusive place) = latch.Begins session task.DropExclusive place ∷ []
begun_at session step = []

-- whoever asks for a word besides changes it, if only to what it was
abbrev pub changed_at : List ℕ → Option ℕ → (ℕ → ℕ) → List latch.LatchEvent
changed_at words None f = []
changed_at words (Some place) f = latch.Changes place (f (word_at words place)) ∷ []

abbrev pub changed_by : {A : Type 0} → List ℕ → Ask A → List latch.LatchEvent
changed_by words ask = changed_at words (asked_place ask) (asked ask)

-- a session's ask is that of its machine for latches where it works on one
abbrev pub asked_by : {A : Type 0} → List ℕ → ℕ → Latching → Ask A → List latch.LatchEvent
asked_by words session AtRest ask = changed_by words ask
asked_by words session step ask = latch.Moves session ∷ []

-- a session makes its ask, and may begin a task then
abbrev pub moved_events : Now → ℕ → Option SessionState → List latch.LatchEvent
moved_events n session None = []
moved_events n session (Some s) =
    begun_at session (session_latching (session_moved (seat_at n session) (near n s)).machine) ++ asked_by n.words session (session_latching s) (session_ask (seat_at n session) s)

-- and so it may where a call begins
abbrev pub called_events : Now → ℕ → Call → Option SessionState → List latch.LatchEvent
called_events n session call None = []
called_events n session call (Some s) = if is_busy s.step then [] else begun_at session (session_latching (session_called (seat_at n session) s call))

unfoldable pub life_events : Now → Event → List latch.LatchEvent
life_events n (Calls session call) = called_events n session call (slice_get n.sessions session)
life_events n (Moves session) = moved_events n session (slice_get n.sessions session)
life_events n (KeeperMoves granted done) = changed_by n.words (keeper_ask n.shape n.places n.keeper)
life_events n event = []

-- what an event is to the latches
abbrev pub latch_events : Now → Event → List latch.LatchEvent
latch_events n event = if n.crashed then [] else life_events n event

-- and what a life is, beside its run
unfoldable pub mapped : World → List Event → List latch.LatchEvent
mapped opening [] = []
mapped opening (event ∷ before) = latch_events (run opening before).now event ++ mapped opening before
