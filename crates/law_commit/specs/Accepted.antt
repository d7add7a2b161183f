-- The versions at which a session has accepted its updates, and how far each version goes.
use Rattle.std.specs.Prelude.{⊤, ℕ, ◌+◌, ◌≤◌, nat_le, cond, List, [], ◌∷◌, Option, Some, None, slice_get}
use Rattle.law_refine.specs.Below.fkv_session.Sessions.{SessionState, Seat}
use Rattle.law_refine.specs.Below.fkv_session.SessionRun.{SessionEvent, session_run}
use Rattle.law_refine.specs.Below.fkv_session.Versions.{TakenAt, versions_taken}
use Rattle.law_refine.specs.Below.fkv_world.OwnEvents.{session_events}
use Rattle.law_refine.specs.Below.fkv_world.Runs.{World}
use Rattle.law_refine.specs.Below.fkv_world.World.{Event, seat_at}
use Rattle.law_commit.specs.LastSerials.{serial_at}

-- the versions of the serials that were taken
abbrev pub versions_of : List TakenAt → List ℕ
versions_of [] = []
versions_of (it ∷ before) = it.version ∷ versions_of before

abbrev pub versions_found : World → List Event → ℕ → Option SessionState → List ℕ
versions_found opening events session None = []
versions_found opening events session (Some first) = versions_of (versions_taken (seat_at opening.now session) first (session_events opening session events))

-- the version of each update that a session has accepted in a life, the newest first
abbrev pub versions_accepted : World → List Event → ℕ → List ℕ
versions_accepted opening events session = versions_found opening events session (slice_get opening.now.sessions session)

-- how many of these are such a version or an earlier one
abbrev pub count_upto : ℕ → List ℕ → ℕ
count_upto version [] = 0
count_upto version (its ∷ before) = cond (nat_le its version) (count_upto version before + 1) (count_upto version before)

-- The last serial that a session has given at a version or an earlier one: that with which the life began, and one more for each such update.
abbrev pub point : World → List Event → ℕ → ℕ → ℕ
point opening events session version = serial_at opening.now session + count_upto version (versions_accepted opening events session)

-- versions never fall from an update to the next, and none is above the last one
abbrev pub NeverFall : ℕ → List ℕ → Type 0
NeverFall last [] = ⊤
NeverFall last (version ∷ before) = (version ≤ last) × NeverFall version before

-- the version that a session goes by never falls in these events
unfoldable pub HasRisingVersion : Seat → SessionState → List SessionEvent → Type 0
HasRisingVersion k first [] = ⊤
HasRisingVersion k first (event ∷ before) =
    ((session_run k first before).seen.version.0 ≤ (session_run k first (event ∷ before)).seen.version.0) × HasRisingVersion k first before
