-- Each step of a life that begins as a store was opened spares the mailbox, but those that are its session's and its keeper's; and a keeper whose
-- device has failed has no call in hand.
use Rattle.std.proofs.Common.{◌≡◌, ℕ, ◌<◌, ◌∙◌, refl, sym, ap, subst, List, [], ◌∷◌, Bool, true, false}
use Rattle.std.specs.Prelude.{Option, Some, None, slice_get}
use Rattle.fkv_base.specs.declared.shapes.Shape.{Shape}
use Rattle.fkv_plane.specs.declared.places.Places.{Places}
use Rattle.law_world.specs.Below.fkv_keeper.TheKeeping.{Keeping}
use Rattle.law_world.specs.Below.fkv_keeper.TheKeeping.TheVariants.{Ended, Starts, Maintains, LoadsPhase, Enters, Copies, Seeks, Waits, Writes, Finishes, Sweeps}
use Rattle.law_world.specs.Below.fkv_keeper.KeeperRun.{IsOpened as IsKeeperOpened, is_in_hand, keeper_run}
use Rattle.law_world.specs.Below.fkv_keeper.Keeping.{KeeperState, keeper_ask}
use Rattle.law_world.proofs.Below.fkv_keeper.Shown.{IsSound, run_sound}
use Rattle.law_world.specs.Below.fkv_session.Sessions.{SessionState, Seat}
use Rattle.law_world.specs.Below.fkv_world.OwnEvents.{keeper_events, session_events}
use Rattle.law_world.specs.Below.fkv_world.Runs.{World, run}
use Rattle.law_world.specs.Below.fkv_world.World.{Event, Calls, Moves, Commits, Turns, KeeperMoves, Crashes, Now, seat_at}
use Rattle.law_world.proofs.Below.fkv_world.Shown.{keeper_runs, places_stay}
use Rattle.law_refine.specs.Mail.Servers.{serving_of, is_serving}
use Rattle.law_refine.specs.Mail.Shows.{SessionSpares, IsPermitted, ArePermitted, IsOpened}
use Rattle.law_refine.specs.Footprint.{TheMailbox, Spares}
use Rattle.law_refine.proofs.Footprint.Lives.{at_each_moment, keeper_spares}
use Rattle.law_refine.proofs.Footprint.Sessions.{IsSessionSparing, SessionRests, session_asks_spares, session_run_spares}

-- the session stays one of the store's
pub its_seat : (opening : World) (session : ℕ) (events : List Event) → IsOpened opening.now session → session < (run opening events).now.places.sessions
its_seat opening session events opened = subst (λ (p : Places). session < p.sessions) (sym (places_stay opening events)) opened.its_seat

same_number : (one other : ℕ) → TheMailbox one ≡ TheMailbox other → other ≡ one
same_number one other same = cc

session_spares : (opening : World) (session : ℕ) (events : List Event) (i : ℕ) (found : Option SessionState) → IsOpened opening.now session → slice_get (run opening events).now.sessions i ≡ found
    → SessionSpares (run opening events).now session i found
session_spares opening session events i None opened is = tt
session_spares opening session events i (Some s) opened is = λ none.
    let n : Now = (run opening events).now in
    let k : Seat = seat_at n i in
    let its : IsSessionSparing k.places s = at_each_moment (λ seat x. IsSessionSparing seat.places x) opening events i s (λ first was. session_run_spares (seat_at opening.now i) first (session_events opening i events) (opened.sessions i first was)) is in
    let rests : SessionRests (TheMailbox session) k s = record { knows = λ e. cc; search = λ e. cc; entry = λ e. cc; latch = λ e. cc; mail = λ e. none (same_number session i e); marks = λ e. cc; phase = λ e. cc } in
    session_asks_spares (TheMailbox session) k s tt its rests

-- so does the keeper
keeper_spared : (opening : World) (session : ℕ) (events : List Event) → IsOpened opening.now session → is_serving session (serving_of (run opening events).now.keeper) ≡ false
    → Spares (TheMailbox session) (run opening events).now.places (keeper_ask (run opening events).now.shape (run opening events).now.places (run opening events).now.keeper)
keeper_spared opening session events opened none =
    let n : Now = (run opening events).now in
    let other : (number : ℕ) → TheMailbox session ≡ TheMailbox number → is_serving number (serving_of n.keeper) ≡ false = λ number e. subst (λ (x : ℕ). is_serving x (serving_of n.keeper) ≡ false) (sym (same_number session number e)) none in
    keeper_spares (TheMailbox session) opening events (λ e. cc) opened.keeper tt tt other (λ finishes number e. cc)

pub is_permitted : (opening : World) (session : ℕ) (before : List Event) (event : Event) → IsOpened opening.now session → IsPermitted (run opening before).now session event
is_permitted opening session before (Moves i) opened = session_spares opening session before i (slice_get (run opening before).now.sessions i) opened refl
is_permitted opening session before (KeeperMoves granted done) opened = λ none. keeper_spared opening session before opened none
is_permitted opening session before (Calls i call) opened = tt
is_permitted opening session before (Commits kind) opened = tt
is_permitted opening session before Turns opened = tt
is_permitted opening session before Crashes opened = tt

-- every life
pub are_permitted : (opening : World) (session : ℕ) (events : List Event) → IsOpened opening.now session → ArePermitted opening session events
are_permitted opening session [] opened = tt
are_permitted opening session (event ∷ before) opened = (is_permitted opening session before event opened, are_permitted opening session before opened)

-- a device that has failed
refused : (shape : Shape) (failed : Bool) (s : KeeperState) (w : _) (number : _) → IsSound shape failed w number s → s.is_broken ≡ true → is_in_hand s.step ≡ false
refused shape failed s w number sound broken = by_step s.step refl
  where
    never : (step : Keeping) → s.step ≡ step → IsSound shape failed w number (record s { step = step })
    never step at = subst (λ (x : KeeperState). IsSound shape failed w number x) (ap (λ (x : Keeping). record s { step = x }) at) sound

    by_step : (step : Keeping) → s.step ≡ step → is_in_hand step ≡ false
    by_step (Ended its) at = refl
    by_step Starts at = absurd ((never Starts at).broken broken)
    by_step Maintains at = absurd ((never Maintains at).broken broken)
    by_step LoadsPhase at = absurd ((never LoadsPhase at).broken broken)
    by_step Enters at = absurd ((never Enters at).broken broken)
    by_step Copies at = absurd ((never Copies at).broken broken)
    by_step Seeks at = absurd ((never Seeks at).broken broken)
    by_step Waits at = absurd ((never Waits at).broken broken)
    by_step Writes at = absurd ((never Writes at).broken broken)
    by_step Finishes at = absurd ((never Finishes at).broken broken)
    by_step Sweeps at = absurd ((never Sweeps at).broken broken)

pub broken_rests : (opening : World) (events : List Event) → IsKeeperOpened opening.now.keeper → (run opening events).now.keeper.is_broken ≡ true → is_in_hand (run opening events).now.keeper.step ≡ false
broken_rests opening events opened broken =
    let same : (run opening events).now.keeper ≡ keeper_run opening.now.shape opening.now.places opening.now.keeper (keeper_events opening events) = keeper_runs opening events in
    let rests = refused opening.now.shape _ _ _ _ (run_sound opening.now.shape opening.now.places opening.now.keeper (keeper_events opening events) opened) (ap (λ (x : KeeperState). x.is_broken) (sym same) ∙ broken) in
    ap (λ (x : KeeperState). is_in_hand x.step) same ∙ rests
