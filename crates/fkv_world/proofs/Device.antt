-- The keeper asks for the device only while each of its calls has succeeded, and is broken for good once one has failed.
use Rattle.std.proofs.Common.{◌≡◌, ℕ, ◌∙◌, ◌++◌, List, [], ◌∷◌, refl, ap, sym, subst, Bool, true, false}
use Rattle.std.specs.Prelude.{◌||◌}
use Rattle.fkv_base.specs.declared.shapes.Shape.{Shape}
use Rattle.fkv_disk.specs.Calls as device
use Rattle.fkv_disk.specs.Calls.{AllDone, Write, Sync}
use Rattle.fkv_plane.specs.declared.asks.Ask.{Ask}
use Rattle.fkv_plane.specs.declared.asks.Ask.TheVariants.{Done}
use Rattle.fkv_plane.specs.declared.places.Places.{Places}
use Rattle.fkv_keeper.specs.declared.answers.KeeperTold.{KeeperTold}
use Rattle.fkv_keeper.specs.declared.answers.KeeperTold.TheVariants.{Device, TurnRefused, CommitRefused}
use Rattle.fkv_keeper.specs.Keeping.{KeeperState, keeper_ask}
use Rattle.fkv_keeper.specs.KeeperAsks.{keeper_calls}
use Rattle.fkv_keeper.specs.KeeperLaws.{IsBrokenForGood, IsRefusal}
use Rattle.fkv_keeper.specs.KeeperRun as keeper
use Rattle.fkv_keeper.specs.KeeperRun.{KeeperEvent, has_failed, is_failure, is_in_hand, keeper_run}
use Rattle.fkv_keeper.proofs.Shown.{done_calls, run_broken}
use Rattle.fkv_world.specs.Moves.{Near}
use Rattle.fkv_world.specs.Opened.{IsOpenedWorld}
use Rattle.fkv_world.specs.OwnEvents.{keeper_steps, keeper_part, keeper_part_of, keeper_events}
use Rattle.fkv_world.specs.Past.{calls_after}
use Rattle.fkv_world.specs.Runs.{World, happens, read_by_keeper, run}
use Rattle.fkv_world.specs.World.{Event, Calls, Moves, Commits, Turns, KeeperMoves, Crashes, near, life_goes}
use Rattle.fkv_world.proofs.Others.{is_over, lived, shape_stays, places_stay}
use Rattle.fkv_world.proofs.OwnRuns.{keeper_runs}
use Rattle.fkv_world.proofs.CallsAdded.{added_calls, calls_added}

-- calls that all succeeded, after others that did
all_done : (later before : List device.Call) → AllDone later → AllDone before → AllDone (later ++ before)
all_done [] before done sofar = sofar
all_done (Write at bytes true ∷ later) before done sofar = all_done later before done sofar
all_done (Write at bytes false ∷ later) before done sofar = absurd done
all_done (Sync true ∷ later) before done sofar = all_done later before done sofar
all_done (Sync false ∷ later) before done sofar = absurd done

-- what failed earlier has failed
or_false : (a b : Bool) → (a || b) ≡ false → (a ≡ false) × (b ≡ false)
or_false true b e = cc
or_false false b e = (refl, e)

none_before : (shape : Shape) (p : Places) (opening : KeeperState) (later before : List KeeperEvent) → has_failed shape p opening (later ++ before) ≡ false → has_failed shape p opening before ≡ false
unfolding has_failed
none_before shape p opening [] before e = e
none_before shape p opening (event ∷ later) before e =
    none_before shape p opening later before (or_false (is_failure event (keeper_ask shape p (keeper_run shape p opening (later ++ before)))) (has_failed shape p opening (later ++ before)) e).1

-- the step at the device has not failed where none has
not_failed : (shape : Shape) (p : Places) (opening : KeeperState) (before : List KeeperEvent) (granted done : Bool) (read : List ℕ) (n : Near KeeperState) (ask : Ask KeeperTold)
    → keeper_ask shape p (keeper_run shape p opening before) ≡ ask → has_failed shape p opening (keeper_steps shape p granted done read n ask ++ before) ≡ false
    → is_failure (keeper.Calls done read) ask ≡ false
unfolding keeper_steps has_failed
not_failed shape p opening before granted true read n ask e none = refl
not_failed shape p opening before granted false read n (Done Device) e none =
    sym (ap (is_failure (keeper.Calls false read)) e) ∙ (or_false (is_failure (keeper.Calls false read) (keeper_ask shape p (keeper_run shape p opening before))) (has_failed shape p opening before) none).0
not_failed shape p opening before granted false read n (Done its) e none = refl
not_failed shape p opening before granted false read n ask e none = refl

step_done : (shape : Shape) (s : KeeperState) (done : Bool) (read : List ℕ) (ask : Ask KeeperTold) (calls : List device.Call) → is_failure (keeper.Calls done read) ask ≡ false → AllDone calls
    → AllDone (calls_after ask (keeper_calls shape s done) calls)
step_done shape s true read (Done Device) calls none sofar = all_done (keeper_calls shape s true) calls (done_calls shape s) sofar
step_done shape s false read (Done Device) calls none sofar = cc
step_done shape s done read (Done its) calls none sofar = sofar
step_done shape s done read ask calls none sofar = sofar

-- one event of the world
event_done : (w : World) (event : Event) (opening : KeeperState) (before : List KeeperEvent) → w.now.keeper ≡ keeper_run w.now.shape w.now.places opening before
    → has_failed w.now.shape w.now.places opening (keeper_part w.now.shape w.now.places (read_by_keeper w) (near w.now w.now.keeper) event ++ before) ≡ false
    → AllDone w.past.calls → AllDone (calls_added w.now event w.past.calls)
unfolding calls_added keeper_part
event_done w (Calls number call) opening before same none sofar = sofar
event_done w (Moves number) opening before same none sofar = sofar
event_done w (Commits kind) opening before same none sofar = sofar
event_done w Turns opening before same none sofar = sofar
event_done w (KeeperMoves granted done) opening before same none sofar =
    step_done w.now.shape w.now.keeper done (read_by_keeper w) (keeper_ask w.now.shape w.now.places w.now.keeper) w.past.calls
    (not_failed w.now.shape w.now.places opening before granted done (read_by_keeper w) (near w.now w.now.keeper) (keeper_ask w.now.shape w.now.places w.now.keeper)
    (ap (keeper_ask w.now.shape w.now.places) (sym same)) none) sofar
event_done w Crashes opening before same none sofar = sofar

happens_done : (w : World) (event : Event) (crashed : Bool) (opening : KeeperState) (before : List KeeperEvent) → w.now.crashed ≡ crashed → w.now.keeper ≡ keeper_run w.now.shape w.now.places opening before
    → has_failed w.now.shape w.now.places opening (keeper_part_of w event ++ before) ≡ false → AllDone w.past.calls → AllDone (happens w event).past.calls
happens_done w event true opening before e same none sofar = subst (λ (x : World). AllDone x.past.calls) (sym (is_over w event e)) sofar
happens_done w event false opening before e same none sofar =
    subst (λ (calls : List device.Call). AllDone calls) (sym (ap (λ (x : World). x.past.calls) (lived w event e) ∙ added_calls w (life_goes w.now (read_by_keeper w) event) event))
    (event_done w event opening before same (subst (λ (part : List KeeperEvent). has_failed w.now.shape w.now.places opening (part ++ before) ≡ false) (rw e refl) none) sofar)

-- of a keeper in a store of this shape and these places
failed_at : Shape → Places → World → List Event → Bool
failed_at shape p opening events = has_failed shape p opening.now.keeper (keeper_events opening events)

calls_done : (opening : World) (events : List Event) → IsOpenedWorld opening → failed_at opening.now.shape opening.now.places opening events ≡ false → AllDone (run opening events).past.calls
unfolding run keeper_events failed_at
calls_done opening [] opened none = subst (λ (calls : List device.Call). AllDone calls) (sym opened.no_calls) tt
calls_done opening (event ∷ before) opened none =
    happens_done w event w.now.crashed opening.now.keeper events refl same none' (calls_done opening before opened (none_before opening.now.shape opening.now.places opening.now.keeper (keeper_part_of w event) events none))
  where
    w : World
    w = run opening before

    events : List KeeperEvent
    events = keeper_events opening before

    same : w.now.keeper ≡ keeper_run w.now.shape w.now.places opening.now.keeper events
    same = keeper_runs opening before ∙ rw (shape_stays opening before, places_stay opening before) refl

    none' : has_failed w.now.shape w.now.places opening.now.keeper (keeper_part_of w event ++ events) ≡ false
    none' =
        ap (λ (shape : Shape). has_failed shape w.now.places opening.now.keeper (keeper_part_of w event ++ events)) (shape_stays opening before)
        ∙ (ap (λ (p : Places). has_failed opening.now.shape p opening.now.keeper (keeper_part_of w event ++ events)) (places_stay opening before) ∙ none)

-- a keeper that is broken asks for no call
never_again : (shape : Shape) (p : Places) (s : KeeperState) → IsBrokenForGood shape p s → keeper_ask shape p s ≡ Done Device → ⊥
never_again shape p s broken asks = refused broken.told broken.refused (sym asks ∙ broken.asks_nothing)
  where
    refused : (told : KeeperTold) → IsRefusal told → ◌≡◌ {A = Ask KeeperTold} (Done Device) (Done told) → ⊥
    refused (TurnRefused why) its e = cc
    refused (CommitRefused why) its e = cc
    refused told its e = absurd its

broken_now : (opening : World) (events : List Event) → IsBrokenForGood opening.now.shape opening.now.places (keeper_run opening.now.shape opening.now.places opening.now.keeper (keeper_events opening events))
    → IsBrokenForGood (run opening events).now.shape (run opening events).now.places (run opening events).now.keeper
broken_now opening events broken = rw (shape_stays opening events, places_stay opening events, keeper_runs opening events) broken

pub failed_broken : (opening : World) (events : List Event) → IsOpenedWorld opening → has_failed opening.now.shape opening.now.places opening.now.keeper (keeper_events opening events) ≡ true
    → IsBrokenForGood (run opening events).now.shape (run opening events).now.places (run opening events).now.keeper
failed_broken opening events opened failed = broken_now opening events (run_broken opening.now.shape opening.now.places opening.now.keeper (keeper_events opening events) opened.keeper failed)

pub asks_while_done : (opening : World) (events : List Event) → IsOpenedWorld opening → keeper_ask (run opening events).now.shape (run opening events).now.places (run opening events).now.keeper ≡ Done Device
    → AllDone (run opening events).past.calls
unfolding failed_at
asks_while_done opening events opened asks = by_cases (failed_at opening.now.shape opening.now.places opening events) refl
  where
    by_cases : (failed : Bool) → failed_at opening.now.shape opening.now.places opening events ≡ failed → AllDone (run opening events).past.calls
    by_cases true e = absurd (never_again _ _ _ (failed_broken opening events opened e) asks)
    by_cases false e = calls_done opening events opened e

pub not_done_broken : (opening : World) (events : List Event) → IsOpenedWorld opening → (AllDone (run opening events).past.calls → ⊥)
    → IsBrokenForGood (run opening events).now.shape (run opening events).now.places (run opening events).now.keeper
unfolding failed_at
not_done_broken opening events opened some = by_cases (failed_at opening.now.shape opening.now.places opening events) refl
  where
    by_cases : (failed : Bool) → failed_at opening.now.shape opening.now.places opening events ≡ failed → IsBrokenForGood (run opening events).now.shape (run opening events).now.places (run opening events).now.keeper
    by_cases true e = failed_broken opening events opened e
    by_cases false e = absurd (some (calls_done opening events opened e))
