-- What the sessions of a world know of the log.
use Rattle.std.specs.Prelude.{◌≡◌, ℕ, List, [], ◌∷◌, slice_get, Some}
use Rattle.law_log.specs.Ghosts.{Ghosts, Log}
use Rattle.law_commit.specs.Below.fkv_session.Sessions.{SessionState}
use Rattle.law_commit.specs.Below.law_local.Sessions.Known.{KnowsRequests}
use Rattle.law_commit.specs.Below.law_local.Tries.AttemptRows.{AttemptKnows, PendingKnows}
use Rattle.law_commit.specs.Below.fkv_world.Runs.{World, run}
use Rattle.law_commit.specs.Below.fkv_world.World.{Event, Now}
use Rattle.law_commit.specs.Below.law_refine.Events.GhostEvents.{life_ghosts}
use Rattle.law_order.specs.Known.Begins.{BegunLife, home_of_world}

-- what a session knows: each request that waits, by what the session has seen, and the attempt that is under way
abbrev pub SessionKnows : (ℕ → ℕ) → Log → SessionState → Type 0
SessionKnows home log s = KnowsRequests (λ pending. PendingKnows home log pending s.seen) (λ a. AttemptKnows home log a) s

-- and so does each
abbrev pub AllKnow : (ℕ → ℕ) → Log → Now → Type 0
AllKnow home log n = (session : ℕ) (s : SessionState) → slice_get n.sessions session ≡ Some s → SessionKnows home log s

-- behind these events of a life
abbrev pub AllKnowBehind : World → Ghosts → List Event → Type 0
AllKnowBehind opening ghosts events = AllKnow (home_of_world opening) (life_ghosts opening ghosts events).log (run opening events).now

-- at each moment of it
unfoldable pub AreKnown : World → Ghosts → List Event → Type 0
AreKnown opening ghosts [] = AllKnowBehind opening ghosts []
AreKnown opening ghosts (event ∷ before) = AreKnown opening ghosts before × AllKnowBehind opening ghosts (event ∷ before)

-- as a life begins
abbrev pub AreKnownAtFirst : Type 0
AreKnownAtFirst =
    (life : BegunLife) → AreKnown life.opening life.ghosts []
