-- In each life of an opened store the word that an ask names is one that there is.
use Rattle.std.proofs.Common.{◌≡◌, ℕ, ◌<◌, ◌≤◌, ◌∙◌, refl, sym, ap, subst, List}
use Rattle.std.specs.Prelude.{Option, Some, None, slice_get}
use Rattle.fkv_plane.specs.declared.places.Places.{Places}
use Rattle.fkv_plane.specs.Asked.{asked_place}
use Rattle.fkv_plane.specs.Places.{word_count}
use Rattle.fkv_epoch.specs.EpochWorld.{EpochPast}
use Rattle.fkv_epoch.proofs.Shown.{some_same}
use Rattle.fkv_flush.specs.GuardWorld.{Actor, GuardWorld}
use Rattle.fkv_keeper.specs.KeeperRun.{KeeperEvent, keeper_run}
use Rattle.fkv_keeper.specs.Keeping.{KeeperState, keeper_ask}
use Rattle.fkv_session.specs.SessionRun.{SessionEvent, session_run}
use Rattle.fkv_session.specs.Sessions as session
use Rattle.fkv_session.specs.Sessions.{SessionState, Seat, session_ask}
use Rattle.fkv_session.specs.Shares.{HasItsBuckets}
use Rattle.fkv_world.specs.OwnEvents.{keeper_events, session_events}
use Rattle.fkv_world.specs.Runs.{World, run}
use Rattle.fkv_world.specs.World.{Event, Now, seat_at}
use Rattle.fkv_world.proofs.Shown.{keeper_runs, places_stay, session_runs}
use Rattle.law_world.proofs.OfRuns.Nothing.{none_ever}
use Rattle.law_world.specs.Guarded.GuardEvents.{keeper_now}
use Rattle.law_world.specs.Guarded.Shows.{IsOpened, Shows, seen_by_guard}
use Rattle.law_world.proofs.OfGuarded.KeeperPlaces.{IsKeeperRow, run_row}
use Rattle.law_world.proofs.OfGuarded.KeeperSeeks.{run_seeks}
use Rattle.law_world.proofs.OfGuarded.Slots.{shown_so}
use Rattle.law_world.proofs.OfGuarded.Worlds.{life_shows, world_of}
use Rattle.law_world.proofs.OfGuardKeeper.WordsWithin.{keeper_within}
use Rattle.law_world.proofs.OfGuardSessions.WordsWithin.{IsWithin, named_within, run_within}

-- where the guard's world has what the engine's has
pub session_here : (n : Now) (actors : List Actor) (past : EpochPast) → Shows n (world_of n actors past) → (number : ℕ) (k : Seat) (o : SessionState) (came : List SessionEvent)
    → session.IsOpened o → HasItsBuckets k → k.places ≡ n.places → slice_get n.sessions number ≡ Some (session_run k o came) → IsWithin n.places (session_ask (seat_at n number) (session_run k o came))
session_here n actors past shows number k o came opened its same there =
    let seat = shows.sessions number (session_run k o came) there in
    run_within (world_of n actors past) number seat.actor k o came opened its same seat.sits

pub keeper_here : (n : Now) (actors : List Actor) (past : EpochPast) → Shows n (world_of n actors past) → n.keeper.seek.sessions ≤ n.places.sessions → IsKeeperRow n.places n.keeper → IsWithin n.places (keeper_ask n.shape n.places n.keeper)
keeper_here n actors past shows few row = keeper_within (world_of n actors past) (keeper_now n) shows.keeper.actor shows.keeper.seen n.keeper shows.keeper.keeps few row

shown : (first : World) (start : ℕ) (events : List Event) → IsOpened first.now start
    → (let w : GuardWorld = seen_by_guard first start events in Shows (run first events).now (world_of (run first events).now w.now.actors w.past))
shown first start events opened = shown_so (run first events).now (seen_by_guard first start events) (life_shows first start events opened)

pub life_session_within : (first : World) (start : ℕ) (events : List Event) (number place : ℕ) (s : SessionState) → IsOpened first.now start → slice_get (run first events).now.sessions number ≡ Some s
    → asked_place (session_ask (seat_at (run first events).now number) s) ≡ Some place → place < word_count first.now.places
life_session_within first start events number place s opened there named = by (slice_get first.now.sessions number) refl
  where
    n : Now
    n = (run first events).now

    w : GuardWorld
    w = seen_by_guard first start events

    by : (was : Option SessionState) → slice_get first.now.sessions number ≡ was → place < word_count first.now.places
    by None at_first = let clash : Some s ≡ None = sym there ∙ none_ever first events number at_first in cc
    by (Some o) at_first =
        let k : Seat = seat_at first.now number in
        let came : List SessionEvent = session_events first number events in
        let ran : slice_get n.sessions number ≡ Some (session_run k o came) = session_runs first number o events at_first in
        let same : session_run k o came ≡ s = some_same (session_run k o came) s (sym ran ∙ there) in
        let here : IsWithin n.places (session_ask (seat_at n number) (session_run k o came)) =
        session_here n w.now.actors w.past (shown first start events opened) number k o came (opened.sessions number o at_first) opened.buckets (sym (places_stay first events)) ran in
        let its : IsWithin n.places (session_ask (seat_at n number) s) = subst (λ (t : SessionState). IsWithin n.places (session_ask (seat_at n number) t)) same here in
        subst (λ (p : Places). place < word_count p) (places_stay first events) (named_within n.places (asked_place (session_ask (seat_at n number) s)) place its named)

pub life_keeper_within : (first : World) (start : ℕ) (events : List Event) (place : ℕ) → IsOpened first.now start → first.now.keeper.seek.sessions ≤ first.now.places.sessions
    → asked_place (keeper_ask (run first events).now.shape (run first events).now.places (run first events).now.keeper) ≡ Some place → place < word_count first.now.places
life_keeper_within first start events place opened few named =
    let n : Now = (run first events).now in
    let w : GuardWorld = seen_by_guard first start events in
    let came : List KeeperEvent = keeper_events first events in
    let ran : n.keeper ≡ keeper_run first.now.shape first.now.places first.now.keeper came = keeper_runs first events in
    let same : n.keeper.seek.sessions ≡ first.now.keeper.seek.sessions = ap (λ (s : KeeperState). s.seek.sessions) ran ∙ run_seeks first.now.shape first.now.places first.now.keeper came in
    let low : n.keeper.seek.sessions ≤ first.now.places.sessions = subst (λ (count : ℕ). count ≤ first.now.places.sessions) (sym same) few in
    let row : IsKeeperRow first.now.places n.keeper = subst (λ (s : KeeperState). IsKeeperRow first.now.places s) (sym ran) (run_row first.now.shape first.now.places first.now.keeper came opened.buckets (record { its_shape = opened.sweeps.0; its_places = opened.sweeps.1 }) opened.keeper) in
    let its : IsWithin n.places (keeper_ask n.shape n.places n.keeper) =
    keeper_here n w.now.actors w.past (shown first start events opened) (subst (λ (p : Places). n.keeper.seek.sessions ≤ p.sessions) (sym (places_stay first events)) low)
    (subst (λ (p : Places). IsKeeperRow p n.keeper) (sym (places_stay first events)) row) in
    subst (λ (p : Places). place < word_count p) (places_stay first events) (named_within n.places (asked_place (keeper_ask n.shape n.places n.keeper)) place its named)
