-- At every moment of a life the words of latches and of the index that a session's step writes are none of the guard's.
use Rattle.std.proofs.Common.{◌≡◌, ℕ, ◌∙◌, refl, sym, subst, List, [], ◌∷◌, ◌++◌}
use Rattle.std.specs.Prelude.{⊤, Option, Some, None, slice_get}
use Rattle.fkv_session.specs.SessionRun.{SessionEvent, session_run}
use Rattle.fkv_session.specs.Sessions.{SessionState, Seat}
use Rattle.law_world.specs.GuardSessions.Sessions.{SessionWritesOuter}
use Rattle.law_world.proofs.OfGuardSessions.InPlace.{run_outer}
use Rattle.fkv_world.specs.OwnEvents.{session_events}
use Rattle.fkv_world.specs.Runs.{World, run}
use Rattle.fkv_world.specs.World.{Event, Now, seat_at}
use Rattle.fkv_world.proofs.Shown.{same_seat, session_runs}
use Rattle.law_world.proofs.OfRuns.Lives.{runs_on}
use Rattle.law_world.specs.Guarded.Shows.{IsOpened}
use Rattle.law_world.proofs.OfRuns.Nothing.{none_ever}

abbrev pub WriteOuter : Now → Type 0
WriteOuter n = (number : ℕ) (s : SessionState) → slice_get n.sessions number ≡ Some s → SessionWritesOuter (seat_at n number) s

-- so it is before each event of a list
abbrev pub AllWriteOuter : World → List Event → Type 0
AllWriteOuter first [] = ⊤
AllWriteOuter first (event ∷ before) = WriteOuter (run first before).now × AllWriteOuter first before

pub write_outer : (first : World) (start : ℕ) (events : List Event) → IsOpened first.now start → WriteOuter (run first events).now
write_outer first start events opened number s there = by (slice_get first.now.sessions number) refl
  where
    by : (was : Option SessionState) → slice_get first.now.sessions number ≡ was → SessionWritesOuter (seat_at (run first events).now number) s
    by None at_first = let clash : Some s ≡ None = sym there ∙ none_ever first events number at_first in cc
    by (Some o) at_first =
        let k : Seat = seat_at first.now number in
        let came : List SessionEvent = session_events first number events in
        let one : Some s ≡ Some (session_run k o came) = sym there ∙ session_runs first number o events at_first in
        let same : s ≡ session_run k o came = cc in
        let its : SessionWritesOuter k (session_run k o came) = run_outer k o came (opened.sessions number o at_first) opened.buckets in
        let here : SessionWritesOuter k s = subst (λ (x : SessionState). SessionWritesOuter k x) (sym same) its in
        subst (λ (x : Seat). SessionWritesOuter x s) (sym (same_seat first events number)) here

pub all_write_outer : (first : World) (start : ℕ) (events : List Event) → IsOpened first.now start → AllWriteOuter first events
all_write_outer first start [] opened = tt
all_write_outer first start (event ∷ before) opened = (write_outer first start before opened, all_write_outer first start before opened)

-- and from a later moment on
pub later_write_outer : (first : World) (start : ℕ) (before later : List Event) → IsOpened first.now start → AllWriteOuter (run first before) later
later_write_outer first start before [] opened = tt
later_write_outer first start before (event ∷ later) opened =
    (subst (λ (w : World). WriteOuter w.now) (runs_on first later before) (write_outer first start (later ++ before) opened), later_write_outer first start before later opened)
