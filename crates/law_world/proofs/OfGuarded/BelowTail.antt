-- The steps of a life are permitted where what its steps change in place is below the tail.
use Rattle.std.proofs.Common.{◌≡◌, ℕ, ◌∙◌, refl, sym, subst, List, [], ◌∷◌}
use Rattle.std.specs.Prelude.{Option, Some, None, slice_get}
use Rattle.fkv_session.specs.SessionRun.{SessionEvent, session_run}
use Rattle.fkv_session.specs.Sessions.{SessionState, Seat}
use Rattle.law_world.specs.GuardSessions.InPlace.{IsAboveReadOnly, IsBelowTail, SessionMayChange}
use Rattle.law_world.proofs.OfGuardSessions.InPlace.{run_above, run_may_change}
use Rattle.fkv_world.specs.OwnEvents.{session_events}
use Rattle.fkv_world.specs.Runs.{World, run}
use Rattle.fkv_world.specs.World.{Event, Calls, Moves, Commits, Turns, KeeperMoves, Crashes, seat_at}
use Rattle.law_world.proofs.OfRuns.Nothing.{none_ever}
use Rattle.fkv_world.proofs.Shown.{session_runs}
use Rattle.law_world.specs.Guarded.Shows.{IsOpened, IsPermitted, ArePermitted, AreBelowTail, ChangesBelowTail, SessionIsPermitted, SessionIsBelowTail}

-- whether a session's step is permitted at a moment of its life comes down to what it changes
-- and what a session changes in place lies at or above the read-only offset that it has seen
session_above : (first : World) (start : ℕ) (before : List Event) (number : ℕ) (was : Option SessionState) (s : SessionState) → IsOpened first.now start → slice_get first.now.sessions number ≡ was
    → slice_get (run first before).now.sessions number ≡ Some s → IsAboveReadOnly s
session_above first start before number None s opened at_first there = let clash : Some s ≡ None = sym there ∙ none_ever first before number at_first in cc
session_above first start before number (Some o) s opened at_first there =
    let k : Seat = seat_at first.now number in
    let came : List SessionEvent = session_events first number before in
    let one : Some s ≡ Some (session_run k o came) = sym there ∙ session_runs first number o before at_first in
    let same : s ≡ session_run k o came = cc in
    subst IsAboveReadOnly (sym same) (run_above k o came (opened.sessions number o at_first))

pub life_above : (first : World) (start : ℕ) (before : List Event) (number : ℕ) (s : SessionState) → IsOpened first.now start → slice_get (run first before).now.sessions number ≡ Some s → IsAboveReadOnly s
life_above first start before number s opened there = session_above first start before number (slice_get first.now.sessions number) s opened refl there

session_permitted : (first : World) (start : ℕ) (before : List Event) (number : ℕ) (was found : Option SessionState) → IsOpened first.now start
    → slice_get first.now.sessions number ≡ was → slice_get (run first before).now.sessions number ≡ found
    → SessionIsBelowTail (run first before).now found → SessionIsPermitted (run first before).now found
session_permitted first start before number was None opened at_first there below = tt
session_permitted first start before number None (Some s) opened at_first there below =
    let clash : Some s ≡ None = sym there ∙ none_ever first before number at_first in cc
session_permitted first start before number (Some o) (Some s) opened at_first there below =
    let k : Seat = seat_at first.now number in
    let came : List SessionEvent = session_events first number before in
    let one : Some s ≡ Some (session_run k o came) = sym there ∙ session_runs first number o before at_first in
    let same : s ≡ session_run k o came = cc in
    let its : IsBelowTail (run first before).now.words (session_run k o came) = subst (λ (x : SessionState). IsBelowTail (run first before).now.words x) same below in
    subst (λ (x : SessionState). SessionMayChange (run first before).now.words x) (sym same) (run_may_change k o came (run first before).now.words (opened.sessions number o at_first) its)

is_permitted : (first : World) (start : ℕ) (before : List Event) (event : Event) → IsOpened first.now start → ChangesBelowTail (run first before).now event → IsPermitted (run first before).now event
is_permitted first start before (Moves number) opened below = session_permitted first start before number (slice_get first.now.sessions number) (slice_get (run first before).now.sessions number) opened refl refl below
is_permitted first start before (Calls number its) opened below = tt
is_permitted first start before (Commits kind) opened below = tt
is_permitted first start before Turns opened below = tt
is_permitted first start before (KeeperMoves granted done) opened below = tt
is_permitted first start before Crashes opened below = tt

pub below_permitted : (first : World) (start : ℕ) (events : List Event) → IsOpened first.now start → AreBelowTail first events → ArePermitted first events
below_permitted first start [] opened below = tt
below_permitted first start (event ∷ before) opened below = (is_permitted first start before event opened below.0, below_permitted first start before opened below.1)
