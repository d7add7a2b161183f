-- A session that there is at a moment of a life was there as the life began, and is the run of its own events since.
use Rattle.std.proofs.Common.{◌≡◌, ℕ, ◌∙◌, refl, sym, List, [], ◌∷◌}
use Rattle.std.specs.Prelude.{Option, Some, None, slice_get}
use Rattle.fkv_epoch.proofs.Shown.{some_same}
use Rattle.law_world.specs.Below.fkv_session.SessionRun.{session_run}
use Rattle.law_world.specs.Below.fkv_session.Sessions.{SessionState}
use Rattle.law_world.specs.Below.fkv_world.OwnEvents.{session_events}
use Rattle.law_world.specs.Below.fkv_world.Runs.{World, happens, run}
use Rattle.law_world.specs.Below.fkv_world.World.{Event, seat_at}
use Rattle.law_world.proofs.OfRuns.Nothing.{none_then}
use Rattle.law_world.proofs.Below.fkv_world.Shown.{session_runs}

-- who is there behind an event was there before it
pub there_before : (w : World) (event : Event) (number : ℕ) (after : SessionState) → slice_get (happens w event).now.sessions number ≡ Some after → (s : SessionState) × (slice_get w.now.sessions number ≡ Some s)
there_before w event number after is_now = by (slice_get w.now.sessions number) refl
  where
    by : (was : Option SessionState) → slice_get w.now.sessions number ≡ was → (s : SessionState) × (slice_get w.now.sessions number ≡ Some s)
    by (Some s) was = (s, was)
    by None was = let clash : Some after ≡ None = sym is_now ∙ none_then w event number was in cc

there_first : (opening : World) (events : List Event) (number : ℕ) (s : SessionState) → slice_get (run opening events).now.sessions number ≡ Some s → (first : SessionState) × (slice_get opening.now.sessions number ≡ Some first)
unfolding run
there_first opening [] number s found = (s, found)
there_first opening (event ∷ before) number s found = let its = there_before (run opening before) event number s found in there_first opening before number its.0 its.1

pub record WasThere (opening : World) (events : List Event) (number : ℕ) (s : SessionState) : Type 0 where
  pub first : SessionState
  pub was : slice_get opening.now.sessions number ≡ Some first
  pub became : s ≡ session_run (seat_at opening.now number) first (session_events opening number events)

pub was_there : (opening : World) (events : List Event) (number : ℕ) (s : SessionState) → slice_get (run opening events).now.sessions number ≡ Some s → WasThere opening events number s
was_there opening events number s found =
    let its = there_first opening events number s found in
    record { first = its.0; was = its.1; became = some_same s (session_run (seat_at opening.now number) its.0 (session_events opening number events)) (sym found ∙ session_runs opening number its.0 events its.1) }
