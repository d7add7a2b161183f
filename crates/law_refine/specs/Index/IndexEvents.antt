-- What each event of the engine's world is to the index: a list of events of its world, the newest first.
use Rattle.std.specs.Prelude.{ℕ, if◌then◌else◌, List, [], ◌∷◌, ◌++◌, slice_get, Option, Some, None}
use Rattle.fkv_map.specs.declared.operations.Call.{Call}
use Rattle.fkv_plane.specs.declared.asks.Ask.{Ask}
use Rattle.fkv_plane.specs.declared.places.Places.{Places}
use Rattle.fkv_plane.specs.Asked.{asked, asked_place, reply_to, word_at}
use Rattle.fkv_plane.specs.Passing.{is_done}
use Rattle.fkv_index.specs.Finding.{find_next_ask}
use Rattle.fkv_index.specs.IndexWorld as index
use Rattle.law_world.specs.Below.fkv_keeper.Keeping.{keeper_ask}
use Rattle.law_world.specs.Below.fkv_session.Sessions.{SessionState, is_busy, session_ask}
use Rattle.law_world.specs.Below.fkv_world.World.{Event, Calls, Moves, KeeperMoves, Now, seat_at, near, session_called}
use Rattle.law_world.specs.Below.fkv_world.Moves.{session_moved}
use Rattle.law_world.specs.Below.fkv_world.Runs.{World, run}
use Rattle.law_refine.specs.Index.Finders.{Search, session_search, session_entry}

-- a search that was under way goes on where the reply doesn't end it; else one has begun
abbrev pub search_begun : Places → ℕ → ℕ → Option Search → Option Search → List index.IndexEvent
search_begun p session reply before None = []
search_begun p session reply None (Some its) = index.BeginsFind session its.finding.home its.purpose ∷ []
search_begun p session reply (Some before) (Some its) = if is_done (find_next_ask p before.finding reply) then index.BeginsFind session its.finding.home its.purpose ∷ [] else []

-- a publish makes one ask, so one that is under way has begun just now
abbrev pub publish_begun : ℕ → Option ℕ → List index.IndexEvent
publish_begun session None = []
publish_begun session (Some addr) = index.BeginsPublish session addr ∷ []

-- whoever asks for a word besides changes it, if only to what it was
abbrev pub changed_at : List ℕ → Option ℕ → (ℕ → ℕ) → List index.IndexEvent
changed_at words None f = []
changed_at words (Some place) f = index.Changes place (f (word_at words place)) ∷ []

abbrev pub changed_by : {A : Type 0} → List ℕ → Ask A → List index.IndexEvent
changed_by words ask = changed_at words (asked_place ask) (asked ask)

-- a session's ask is that of its search or its publish where one is under way
abbrev pub asked_by : {A : Type 0} → List ℕ → ℕ → Option Search → Option ℕ → Ask A → List index.IndexEvent
asked_by words session None None ask = changed_by words ask
asked_by words session search entry ask = index.Moves session ∷ []

-- what a session's step may begin
abbrev pub begun_by : Places → ℕ → ℕ → Option Search → SessionState → List index.IndexEvent
begun_by p session reply before after = search_begun p session reply before (session_search after) ++ publish_begun session (session_entry after)

-- a session makes its ask, and may begin a search or a publish then
abbrev pub moved_events : Now → ℕ → Option SessionState → List index.IndexEvent
moved_events n session None = []
moved_events n session (Some s) =
    begun_by n.places session (reply_to n.words (session_ask (seat_at n session) s)) (session_search s) (session_moved (seat_at n session) (near n s)).machine
    ++ asked_by n.words session (session_search s) (session_entry s) (session_ask (seat_at n session) s)

-- and so it may where a call begins
abbrev pub called_events : Now → ℕ → Call → Option SessionState → List index.IndexEvent
called_events n session call None = []
called_events n session call (Some s) = if is_busy s.step then [] else begun_by n.places session 0 None (session_called (seat_at n session) s call)

unfoldable pub life_events : Now → Event → List index.IndexEvent
life_events n (Calls session call) = called_events n session call (slice_get n.sessions session)
life_events n (Moves session) = moved_events n session (slice_get n.sessions session)
life_events n (KeeperMoves granted done) = changed_by n.words (keeper_ask n.shape n.places n.keeper)
life_events n event = []

-- what an event is to the index
abbrev pub index_events : Now → Event → List index.IndexEvent
index_events n event = if n.crashed then [] else life_events n event

-- and what a life is, beside its run
unfoldable pub mapped : World → List Event → List index.IndexEvent
mapped opening [] = []
mapped opening (event ∷ before) = index_events (run opening before).now event ++ mapped opening before
