-- What a call asks at most, over a run.
use Rattle.std.specs.Prelude.{◌≡◌, ⊤, ℕ, if◌then◌else◌, false, List, [], ◌∷◌}
use Rattle.fkv_plane.specs.Passing.{is_done}
use Rattle.fkv_session.specs.AsksLeft.{call_bound}
use Rattle.fkv_session.specs.SessionRun.{SessionEvent, Begins, session_run}
use Rattle.fkv_session.specs.Sessions.{SessionState, Seat, is_busy, session_ask}

-- a reply and an action come only where something is asked
abbrev pub IsAsked : Seat → SessionState → SessionEvent → Type 0
IsAsked k s (Begins its) = ⊤
IsAsked k s event = is_done (session_ask k s) ≡ false

-- so at every event of a run
unfoldable pub AreAsked : Seat → SessionState → List SessionEvent → Type 0
AreAsked k opening [] = ⊤
AreAsked k opening (event ∷ before) = IsAsked k (session_run k opening before) event × AreAsked k opening before

-- a call begins where none is in hand
abbrev pub bound_begun : Seat → SessionState → SessionEvent → ℕ → ℕ
bound_begun k s (Begins its) earlier = if is_busy s.step then earlier else call_bound k.shape its
bound_begun k s event earlier = earlier

-- the bound of the call that was begun last, 0 where none was
unfoldable pub run_bound : Seat → SessionState → List SessionEvent → ℕ
run_bound k opening [] = 0
run_bound k opening (event ∷ before) = bound_begun k (session_run k opening before) event (run_bound k opening before)
