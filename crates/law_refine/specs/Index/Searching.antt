-- How a reply to a session moves its search of the index.
use Rattle.std.specs.Prelude.{◌≡◌, ℕ, ◌<◌, true, false, List, ⊤, Option, Some, None}
use Rattle.fkv_plane.specs.declared.places.Places.{Places}
use Rattle.fkv_plane.specs.Passing.{is_done}
use Rattle.fkv_index.specs.declared.finding.Purpose.{Purpose}
use Rattle.fkv_index.specs.declared.homes.Home.{Home}
use Rattle.fkv_index.specs.Finding.{first_finding, find_next, find_next_ask}
use Rattle.law_world.specs.Below.fkv_session.SessionRun.{SessionEvent, session_run}
use Rattle.law_world.specs.Below.fkv_session.Sessions.{IsOpened, Seat, SessionState, session_next}
use Rattle.law_world.specs.Below.fkv_session.Shares.{HasItsBuckets}
use Rattle.law_refine.specs.Index.Finders.{Search, session_search}

-- none was under way, or the reply ends it
abbrev pub HasEnded : Places → ℕ → Option Search → Type 0
HasEnded p reply None = ⊤
HasEnded p reply (Some its) = is_done (find_next_ask p its.finding reply) ≡ true

-- Behind a reply a search goes on where its machine does. Else it has ended, and then none is under way, or one has begun in a bucket
-- of the index.
pub data SearchMoves (p : Places) (reply : ℕ) (before after : Option Search) : Type 0 where
  GoesOn : (its : Search) → before ≡ Some its → is_done (find_next_ask p its.finding reply) ≡ false → after ≡ Some (record { finding = find_next p its.finding reply; purpose = its.purpose }) → SearchMoves p reply before after
  Rests : HasEnded p reply before → after ≡ None → SearchMoves p reply before after
  Begins : (home : Home) (purpose : Purpose) (spare : ℕ) → HasEnded p reply before → home.bucket < p.buckets → after ≡ Some (record { finding = first_finding p home purpose spare; purpose = purpose }) → SearchMoves p reply before after

-- so it is with each reply to each session, at every moment of its runs
abbrev pub AreSearchesMoved : Type 0
AreSearchesMoved = (seat : Seat) (opening : SessionState) (events : List SessionEvent) (reply : ℕ) → IsOpened opening → HasItsBuckets seat
    → SearchMoves seat.places reply (session_search (session_run seat opening events)) (session_search (session_next seat (session_run seat opening events) reply))
