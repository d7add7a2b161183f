-- What the laws of `seen` say.
use Rattle.std.specs.Prelude.{◌≡◌, ◌≤◌, ◌∷◌, ℕ, List, Some, false, slice_get, true}
use Rattle.law_world.specs.GuardSessions.Followed.{is_turning}
use Rattle.law_log.specs.Ghosts.{Ghosts}
use Rattle.law_world.specs.Below.fkv_session.Sessions.{SessionState, is_busy, session_ask}
use Rattle.law_local.specs.Tries.TryRows.{head_in}
use Rattle.law_world.specs.Below.fkv_world.Moves.{session_moved, session_replied}
use Rattle.law_world.specs.Below.fkv_world.Runs.{World, run}
use Rattle.law_world.specs.Below.fkv_world.World.{Event, near, seat_at}
use Rattle.law_world.specs.Guarded.Shows.{IsOpened}
use Rattle.law_refine.specs.Events.GhostEvents.{life_ghosts, safe_at}
use Rattle.law_refine.specs.Seen.Floors.{HaveFloorsUpto, HasToldUpto, OpensUpto, TellsUpto}
use Rattle.law_refine.specs.Seen.Ops.{HasPlainOp}

-- what lies below the head that a session has seen is fixed
abbrev pub BelowSeenIsFixed : Type 0
BelowSeenIsFixed =
    (opening : World) (start : ℕ) (ghosts : Ghosts) (events : List Event) (session : ℕ) (s : SessionState) → IsOpened opening.now start → ghosts.log.fixed ≡ safe_at opening.now
    → slice_get (run opening events).now.sessions session ≡ Some s → head_in s.seen ≤ (life_ghosts opening ghosts events).log.fixed

-- and that head never falls
abbrev pub SeenNeverFalls : Type 0
SeenNeverFalls =
    (opening : World) (start : ℕ) (before : List Event) (event : Event) (session : ℕ) (s after : SessionState) → IsOpened opening.now start
    → slice_get (run opening before).now.sessions session ≡ Some s → slice_get (run opening (event ∷ before)).now.sessions session ≡ Some after → head_in s.seen ≤ head_in after.seen

-- the operation that a call has in hand brings a number that stands for a value
abbrev pub CallsHavePlainOps : Type 0
CallsHavePlainOps =
    (opening : World) (start : ℕ) (events : List Event) (session : ℕ) (s : SessionState) → IsOpened opening.now start
    → slice_get (run opening events).now.sessions session ≡ Some s → HasPlainOp s

-- a session with a call in hand moves by one ask of a word alone
abbrev pub CallsMoveByOneAsk : Type 0
CallsMoveByOneAsk =
    (opening : World) (start : ℕ) (events : List Event) (session : ℕ) (s : SessionState) → IsOpened opening.now start
    → slice_get (run opening events).now.sessions session ≡ Some s → is_busy s.step ≡ true → is_turning s.step ≡ false
    → session_moved (seat_at (run opening events).now session) (near (run opening events).now s)
    ≡ session_replied (seat_at (run opening events).now session) (near (run opening events).now s) (session_ask (seat_at (run opening events).now session) s)

-- each floor stays at or below a begin of the log, where nobody is told a higher one
abbrev pub FloorsStayBelow : Type 0
FloorsStayBelow =
    (opening : World) (before : List Event) (event : Event) (begin : ℕ) → TellsUpto begin (run opening before).now
    → HaveFloorsUpto begin (run opening before).now → HaveFloorsUpto begin (run opening (event ∷ before)).now

-- so they are over a life
abbrev pub FloorsLieBelow : Type 0
FloorsLieBelow =
    (opening : World) (events : List Event) (begin : ℕ) → OpensUpto begin opening.now → HasToldUpto begin opening events
    → HaveFloorsUpto begin (run opening events).now
