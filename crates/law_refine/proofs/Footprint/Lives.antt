-- What holds at each moment of a session's own run holds of it at each moment of a life, and so for the keeper. So each ask of the keeper's
-- spares each part, but the mailbox that it is at and the durable word that it stores.
use Rattle.std.proofs.Common.{◌≡◌, ℕ, ◌∙◌, refl, sym, subst, List, false}
use Rattle.std.specs.Prelude.{Option, Some, None, slice_get}
use Rattle.fkv_base.specs.declared.shapes.Shape.{Shape}
use Rattle.fkv_plane.specs.declared.places.Places.{Places}
use Rattle.fkv_sweep.proofs.Shown.{IsLoading, sweep_loads}
use Rattle.fkv_sweep.specs.Swept.{IsLoadOrEnd}
use Rattle.fkv_sweep.specs.Sweeping.{sweep_ask}
use Rattle.law_world.specs.Below.fkv_keeper.TheKeeping.TheVariants.{Finishes}
use Rattle.law_world.specs.Below.fkv_keeper.KeeperRun as keeper
use Rattle.law_world.specs.Below.fkv_keeper.Keeping.{KeeperState, keeper_ask}
use Rattle.law_world.specs.Below.fkv_session.Sessions.{SessionState, Seat}
use Rattle.law_world.specs.Below.fkv_session.SessionRun.{session_run}
use Rattle.law_world.specs.Below.fkv_world.OwnEvents.{keeper_events, session_events}
use Rattle.law_world.specs.Below.fkv_world.Runs.{World, run}
use Rattle.law_world.specs.Below.fkv_world.World.{Event, seat_at}
use Rattle.law_world.proofs.Below.fkv_keeper.Shown.{run_loading}
use Rattle.law_world.proofs.Below.fkv_world.Shown.{keeper_runs, session_runs, same_seat, places_stay, shape_stays}
use Rattle.law_world.proofs.OfRuns.Nothing.{none_ever}
use Rattle.law_refine.specs.Footprint.{Part, ThePhase, HasSeats, Spares}
use Rattle.law_refine.specs.Mail.Servers.{serving_of}
use Rattle.law_refine.proofs.Footprint.Commits.{IsStoredNot}
use Rattle.law_refine.proofs.Footprint.Keepers.{IsKeeperSparing, keeper_stores, keeper_asks_spares, keeper_run_spares}
use Rattle.law_refine.proofs.Footprint.Serves.{IsServedNot}

-- an item of a list is one
no_item : {X : Type 0} {A : Type 0} (found : Option X) (its : X) → found ≡ None → found ≡ Some its → A
no_item found its none some = let clash : None ≡ Some its = sym none ∙ some in cc

some_same : {X : Type 0} {found : Option X} {x y : X} → found ≡ Some x → found ≡ Some y → x ≡ y
some_same one other = let same : ◌≡◌ {A = Option _} (Some _) (Some _) = sym one ∙ other in cc

-- of each session
pub at_each_moment : (Q : Seat → SessionState → Type 0) (opening : World) (events : List Event) (i : ℕ) (s : SessionState)
    → ((first : SessionState) → slice_get opening.now.sessions i ≡ Some first → Q (seat_at opening.now i) (session_run (seat_at opening.now i) first (session_events opening i events)))
    → slice_get (run opening events).now.sessions i ≡ Some s → Q (seat_at (run opening events).now i) s
at_each_moment Q opening events i s ran is = by_first (slice_get opening.now.sessions i) refl
  where
    by_first : (first : Option SessionState) → slice_get opening.now.sessions i ≡ first → Q (seat_at (run opening events).now i) s
    by_first None none = no_item _ s (none_ever opening events i none) is
    by_first (Some first) was =
        let now : s ≡ session_run (seat_at opening.now i) first (session_events opening i events) = some_same is (session_runs opening i first events was) in
        let so : Q (seat_at opening.now i) s = subst (λ (x : SessionState). Q (seat_at opening.now i) x) (sym now) (ran first was) in
        subst (λ (k : Seat). Q k s) (sym (same_seat opening events i)) so

-- of the keeper
keeper_spared : (opening : World) (events : List Event) → keeper.IsOpened opening.now.keeper → IsKeeperSparing opening.now.shape.sessions opening.now.keeper.finish.sessions (run opening events).now.keeper
keeper_spared opening events opened =
    let count : ℕ = opening.now.keeper.finish.sessions in
    let ran = keeper_run_spares count opening.now.shape opening.now.places opening.now.keeper (keeper_events opening events) opened refl in
    subst (λ (s : KeeperState). IsKeeperSparing opening.now.shape.sessions count s) (sym (keeper_runs opening events)) ran

-- its sweep asks for loads alone
sweep_loaded : (opening : World) (events : List Event) → keeper.IsOpened opening.now.keeper → IsLoadOrEnd (sweep_ask (run opening events).now.keeper.sweep)
sweep_loaded opening events opened =
    let loads = run_loading opening.now.shape opening.now.places opening.now.keeper (keeper_events opening events) opened in
    sweep_loads (run opening events).now.keeper.sweep (subst (λ (s : KeeperState). IsLoading s.sweep) (sym (keeper_runs opening events)) loads)

pub keeper_spares : (part : Part) (opening : World) (events : List Event) → (part ≡ ThePhase → keeper_stores (run opening events).now.keeper (run opening events).now.keeper.step ≡ false) → keeper.IsOpened opening.now.keeper → HasSeats part opening.now.places opening.now.shape.sessions → HasSeats part opening.now.places opening.now.keeper.finish.sessions
    → IsServedNot part (serving_of (run opening events).now.keeper) → ((run opening events).now.keeper.step ≡ Finishes → IsStoredNot part (run opening events).now.keeper.finish.step)
    → Spares part (run opening events).now.places (keeper_ask (run opening events).now.shape (run opening events).now.places (run opening events).now.keeper)
keeper_spares part opening events apart opened served finished none other =
    let s : KeeperState = (run opening events).now.keeper in
    let its : Spares part opening.now.places (keeper_ask opening.now.shape opening.now.places s) = keeper_asks_spares part opening.now.shape opening.now.places opening.now.keeper.finish.sessions s apart served finished (keeper_spared opening events opened) none other (sweep_loaded opening events opened) in
    subst (λ (shape : Shape). Spares part (run opening events).now.places (keeper_ask shape (run opening events).now.places s)) (sym (shape_stays opening events))
    (subst (λ (p : Places). Spares part p (keeper_ask opening.now.shape p s)) (sym (places_stay opening events)) its)
