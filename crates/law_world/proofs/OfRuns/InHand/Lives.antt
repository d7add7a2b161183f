-- In a life the call of a session, or of the keeper, is in hand behind a step that names a slot.
use Rattle.std.proofs.Common.{◌≡◌, ℕ, ◌∙◌, ap, arith, refl, subst, sym, true, false}
use Rattle.std.specs.Prelude.{Bool, List, Option, Some, None, slice_get}
use Rattle.fkv_epoch.proofs.Shown.{some_same}
use Rattle.fkv_session.specs.Sessions.{SessionState, is_busy, session_ask}
use Rattle.fkv_world.specs.Actors.{session_goes, session_slot_named, slot_asked, slot_named}
use Rattle.fkv_world.specs.Moves.{session_moved}
use Rattle.fkv_world.specs.Runs.{World, happens, read_by_keeper, run}
use Rattle.fkv_world.specs.World.{Event, KeeperMoves, Moves, Now, near, seat_at}
use Rattle.std.proofs.lemmas.Bool.Decides.{nat_tests}
use Rattle.law_world.proofs.OfRuns.InHand.Sessions.{session_busy}
use Rattle.fkv_keeper.specs.KeeperRun.{is_in_hand}
use Rattle.fkv_keeper.specs.Keeping.{KeeperState, keeper_ask}
use Rattle.fkv_base.specs.declared.shapes.Shape.{Shape}
use Rattle.fkv_plane.specs.declared.places.Places.{Places}
use Rattle.fkv_world.specs.Opened.{IsOpenedWorld}
use Rattle.fkv_world.specs.OwnEvents.{keeper_events}
use Rattle.fkv_world.proofs.Shown.{keeper_runs, lives, places_stay, session_written, shape_stays}
use Rattle.law_world.proofs.OfRuns.Ends.{goes_keeper}
use Rattle.law_world.proofs.OfRuns.InHand.Keepers.{KeeperNow, keeper_hand, run_now}

moves_so : (w : World) (session : ℕ) (its : SessionState) → w.now.crashed ≡ false → slice_get w.now.sessions session ≡ Some its
    → slice_get (happens w (Moves session)).now.sessions session ≡ Some (session_moved (seat_at w.now session) (near w.now its)).machine
unfolding session_goes
moves_so w session its alive found = session_written w (Moves session) session its (grind (arith, nat_tests)) alive found

pub session_in_hand : (w : World) (session slot : ℕ) (its after : SessionState) → w.now.crashed ≡ false → slice_get w.now.sessions session ≡ Some its
    → slot_asked (session_ask (seat_at w.now session) its) ≡ None → slot_named w.now (Moves session) ≡ Some slot
    → slice_get (happens w (Moves session)).now.sessions session ≡ Some after → is_busy after.step ≡ true
session_in_hand w session slot its after alive found none named is =
    let k = seat_at w.now session in
    let so : (session_moved k (near w.now its)).machine ≡ after = some_same _ after (sym (moves_so w session its alive found) ∙ is) in
    let names : session_slot_named w.now k (Some its) ≡ Some slot = ap (λ (x : Option SessionState). session_slot_named w.now k x) (sym found) ∙ named in
    ap (λ (x : SessionState). is_busy x.step) (sym so) ∙ session_busy k (near w.now its) (session_ask k its) slot none names

-- the keeper of a life
keeper_now : (opening : World) (events : List Event) → IsOpenedWorld opening → KeeperNow (run opening events).now.shape (run opening events).now.places (run opening events).now.keeper
keeper_now opening events opened =
    let w : World = run opening events in
    let its = run_now opening.now.shape opening.now.places opening.now.keeper (keeper_events opening events) opened.keeper.none_in_hand in
    subst (λ (x : Shape). KeeperNow x w.now.places w.now.keeper) (sym (shape_stays opening events))
    (subst (λ (x : Places). KeeperNow opening.now.shape x w.now.keeper) (sym (places_stay opening events))
    (subst (λ (x : KeeperState). KeeperNow opening.now.shape opening.now.places x) (sym (keeper_runs opening events)) its))

pub keeper_in_hand : (opening : World) (events : List Event) (granted done : Bool) (slot : ℕ) → IsOpenedWorld opening → (run opening events).now.crashed ≡ false
    → slot_named (run opening events).now (KeeperMoves granted done) ≡ Some slot → is_in_hand (happens (run opening events) (KeeperMoves granted done)).now.keeper.step ≡ true
keeper_in_hand opening events granted done slot opened alive named =
    let w : World = run opening events in
    ap (λ (n : Now). is_in_hand n.keeper.step) (lives w (KeeperMoves granted done) alive ∙ goes_keeper w.now (read_by_keeper w) granted done)
    ∙ keeper_hand w.now.shape w.now.places granted done (read_by_keeper w) (near w.now w.now.keeper) (keeper_ask w.now.shape w.now.places w.now.keeper) slot refl (keeper_now opening events opened) named
