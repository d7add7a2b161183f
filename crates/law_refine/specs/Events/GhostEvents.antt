-- What each event of the engine's world is to the log: a list of its events, the newest first; and the log beside a life.
use Rattle.std.specs.Prelude.{ℕ, ◌+◌, ◌*◌, ◌^◌, ◌==◌, if◌then◌else◌, length, map, List, [], ◌∷◌, ◌++◌, slice_get, Option, Some, None}
use Rattle.law_log.specs.Ghosts.{Ghosts, GhostEvent, Tells, Fixes, ghost_run}
use Rattle.fkv_plane.specs.declared.places.SharedWord.TheVariants as one
use Rattle.fkv_plane.specs.Asked.{word_at}
use Rattle.fkv_plane.specs.Places.{shared_place}
use Rattle.fkv_index.specs.declared.homes.Home.{Home}
use Rattle.fkv_index.specs.Slots.{home_of}
use Rattle.law_world.specs.Below.fkv_session.Sessions.{SessionState, session_ask}
use Rattle.law_world.specs.Runs.Added.{told_at, told_by}
use Rattle.law_world.specs.Below.fkv_world.Past.{Traced}
use Rattle.law_world.specs.Below.fkv_world.Runs.{World, happens, run}
use Rattle.law_world.specs.Below.fkv_world.World.{Event, Moves, Now, seat_at}
use Rattle.law_refine.specs.Events.Lines.{lines_added}
use Rattle.law_refine.specs.Events.Sessions.{step_ghosts}

-- the home of a key as a number: its bucket, and its tag, which is below 2^15
abbrev pub home_number : Home → ℕ
home_number its = its.bucket * 2 ^ 15 + its.tag

abbrev pub home_in : ℕ → ℕ → ℕ
home_in bits key = home_number (home_of bits (record { 0 = key }))

-- the step of a session
abbrev pub moved_ghosts : World → ℕ → Option SessionState → List GhostEvent
moved_ghosts w session None = []
moved_ghosts w session (Some s) = step_ghosts (seat_at w.now session) w.past.trace s w.now.words (session_ask (seat_at w.now session) s)

abbrev pub own_ghosts : World → Event → List GhostEvent
own_ghosts w (Moves session) = moved_ghosts w session (slice_get w.now.sessions session)
own_ghosts w event = []

-- whoever raises the safe read-only offset fixes the records below it
abbrev pub safe_at : Now → ℕ
safe_at n = word_at n.words (shared_place one.SafeReadOnly)

abbrev pub fixed_ghosts : ℕ → ℕ → List GhostEvent
fixed_ghosts before safe = if safe == before then [] else Fixes safe ∷ []

-- what an event adds to the trace
abbrev pub traced_by : World → Event → List Traced
traced_by w event = told_at (length (happens w event).past.history) (told_by w.now (happens w event).now event)

-- the serials that sessions have
abbrev pub serial_in : Option SessionState → ℕ
serial_in None = 0
serial_in (Some s) = s.serial

abbrev pub serials_in : Now → ℕ → ℕ
serials_in n session = serial_in (slice_get n.sessions session)

-- An event is what its session does, then a raise of the safe read-only offset, and then what is told; after a crash nothing is. Sessions have begun with
-- these serials.
unfoldable pub ghost_events : (ℕ → ℕ) → World → Event → List GhostEvent
ghost_events first w event =
    if w.now.crashed then []
    else map Tells (lines_added first w.past.trace (traced_by w event)) ++ (fixed_ghosts (safe_at w.now) (safe_at (happens w event).now) ++ own_ghosts w event)

-- what a life is to the log
unfoldable pub mapped : World → List Event → List GhostEvent
mapped opening [] = []
mapped opening (event ∷ before) = ghost_events (serials_in opening.now) (run opening before) event ++ mapped opening before

-- and the log beside it
abbrev pub life_ghosts : World → Ghosts → List Event → Ghosts
life_ghosts opening ghosts events = ghost_run (home_in opening.now.shape.bucket_bits) ghosts (mapped opening events)
