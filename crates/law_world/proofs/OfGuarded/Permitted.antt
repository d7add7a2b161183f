-- What a permitted event of the engine is to the guard, is a list of permitted events.
use Rattle.std.proofs.Common.{◌≡◌, ℕ, refl, sym, subst, List, [], ◌∷◌, Bool, true, false}
use Rattle.std.specs.Prelude.{Option, Some, None, slice_get, if◌then◌else◌}
use Rattle.fkv_map.specs.declared.operations.Call.{Call}
use Rattle.fkv_base.specs.declared.shapes.Shape.{Shape}
use Rattle.fkv_plane.specs.declared.places.Places.{Places}
use Rattle.fkv_flush.specs.Guarded.{ArePermittedEvents}
use Rattle.fkv_flush.specs.GuardWorld.{GuardWorld, GuardEvent}
use Rattle.fkv_flush.proofs.Shown.{permitted_on}
use Rattle.fkv_session.specs.Sessions.{SessionState, is_busy, session_begun}
use Rattle.law_world.specs.GuardSessions.InPlace.{SessionMayChange}
use Rattle.law_world.specs.GuardSessions.Sessions.{session_guard_events, sitting_onward, called_guard_events}
use Rattle.law_world.specs.GuardSessions.Steps.{Onward, Stays, Starts, GoesOn, onward_events}
use Rattle.law_world.proofs.OfGuardSessions.Permitted.{moves_permitted}
use Rattle.fkv_world.specs.Moves.{session_moved}
use Rattle.fkv_world.specs.Runs.{World, read_by_keeper, run}
use Rattle.fkv_world.specs.World.{Event, Calls, Moves, Commits, Turns, KeeperMoves, Crashes, Now, seat_at, near}
use Rattle.law_world.specs.Guarded.GuardEvents.{called_events, moved_events, keeper_number, keeper_now, life_events, guard_events, mapped}
use Rattle.law_world.specs.Guarded.Shows.{IsOpened, Shows, IsPermitted, ArePermitted, SessionIsPermitted, guard_opening}
use Rattle.law_world.proofs.OfGuarded.OneStep.{keeper_is_permitted}
use Rattle.law_world.proofs.OfGuarded.KeeperSteps.{keeper_makes, turn_asked_makes}
use Rattle.law_world.proofs.OfGuarded.Worlds.{life_shows}

onward_permitted : (w : GuardWorld) (a : ℕ) (its : Onward) → ArePermittedEvents w (onward_events a its)
onward_permitted w a Stays = tt
onward_permitted w a (Starts task) = (tt, tt)
onward_permitted w a GoesOn = (tt, tt)

either_permitted : (w : GuardWorld) (b : Bool) (events others : List GuardEvent) → ArePermittedEvents w events → ArePermittedEvents w others → ArePermittedEvents w (if b then events else others)
either_permitted w true events others one other = one
either_permitted w false events others one other = other

called_permitted : (n : Now) (w : GuardWorld) (i : ℕ) (call : Call) (found : Option SessionState) → ArePermittedEvents w (called_events n i call found)
called_permitted n w i call None = tt
called_permitted n w i call (Some s) =
    let after : SessionState = session_begun (seat_at n i) s call in
    either_permitted w (is_busy s.step) [] (called_guard_events (seat_at n i) after) tt (onward_permitted w i (sitting_onward after after.step))

moved_permitted : (n : Now) (w : GuardWorld) (i : ℕ) (found : Option SessionState) → slice_get n.sessions i ≡ found → SessionIsPermitted n found → Shows n w → ArePermittedEvents w (moved_events n i found)
moved_permitted n w i None there permitted shows = tt
moved_permitted n w i (Some s) there permitted shows =
    let after : SessionState = (session_moved (seat_at n i) (near n s)).machine in
    let seat = shows.sessions i s there in
    let its = moves_permitted w i seat.actor s after seat.sits (subst (λ (words : List ℕ). SessionMayChange words s) (sym shows.words) permitted) in
    subst (λ (words : List ℕ). ArePermittedEvents w (session_guard_events (seat_at n i) words s after)) shows.words
    (subst (λ (p : Places). ArePermittedEvents w (session_guard_events (record { places = p; shape = n.shape; number = i }) w.now.words s after)) shows.places
    (subst (λ (shape : Shape). ArePermittedEvents w (session_guard_events (record { places = w.now.places; shape = shape; number = i }) w.now.words s after)) shows.shape its))

event_permitted : (n : Now) (w : GuardWorld) (read : List ℕ) (event : Event) → IsPermitted n event → Shows n w → ArePermittedEvents w (life_events n read event)
unfolding life_events
event_permitted n w read (Calls i call) permitted shows = called_permitted n w i call (slice_get n.sessions i)
event_permitted n w read (Moves i) permitted shows = moved_permitted n w i (slice_get n.sessions i) refl permitted shows
event_permitted n w read Turns permitted shows = keeper_is_permitted w (keeper_number n) (keeper_now n) _ (turn_asked_makes (keeper_number n) n.keeper)
event_permitted n w read (KeeperMoves granted done) permitted shows = keeper_is_permitted w (keeper_number n) (keeper_now n) _ (keeper_makes (keeper_number n) n.shape n.places granted done read n.keeper n.words)
event_permitted n w read (Commits kind) permitted shows = tt
event_permitted n w read Crashes permitted shows = tt

pub are_permitted : (n : Now) (w : GuardWorld) (read : List ℕ) (event : Event) → IsPermitted n event → Shows n w → ArePermittedEvents w (guard_events n read event)
are_permitted n w read event permitted shows = either_permitted w n.crashed [] (life_events n read event) tt (event_permitted n w read event permitted shows)

-- and so it is with a life
pub life_permitted : (first : World) (start : ℕ) (events : List Event) → IsOpened first.now start → ArePermitted first events → ArePermittedEvents (guard_opening first.now start) (mapped first events)
unfolding mapped
life_permitted first start [] opened permitted = tt
life_permitted first start (event ∷ before) opened permitted =
    let b : World = run first before in
    permitted_on (guard_opening first.now start) (guard_events b.now (read_by_keeper b) event) (mapped first before)
    (are_permitted b.now _ (read_by_keeper b) event permitted.0 (life_shows first start before opened))
    (life_permitted first start before opened permitted.1)
