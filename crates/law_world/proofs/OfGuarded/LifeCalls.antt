-- The calls of the guard's run of a life are the writes and syncs of the life.
use Rattle.std.proofs.Common.{◌≡◌, ℕ, ◌∙◌, refl, sym, ap, subst, List, [], ◌∷◌, ◌++◌, Bool, true, false}
use Rattle.std.specs.Prelude.{if◌then◌else◌, Option, Some, None, slice_get}
use Rattle.std.proofs.lemmas.List.{append_assoc}
use Rattle.fkv_base.specs.declared.shapes.Shape.{Shape}
use Rattle.fkv_disk.specs.Calls as device
use Rattle.fkv_map.specs.declared.operations.Call.{Call}
use Rattle.fkv_plane.specs.declared.asks.Ask.{Ask}
use Rattle.fkv_plane.specs.declared.asks.Ask.TheVariants.{Done}
use Rattle.fkv_epoch.specs.EpochWorld.{EpochPast}
use Rattle.fkv_flush.specs.GuardFlushed.{IsSynced, calls_made, event_calls, stands}
use Rattle.fkv_flush.specs.GuardLevels.{levels_of}
use Rattle.fkv_flush.specs.GuardWorld.{Actor, GuardEvent, GuardWorld, guard_run}
use Rattle.fkv_keeper.specs.declared.answers.KeeperTold.{KeeperTold}
use Rattle.fkv_keeper.specs.declared.answers.KeeperTold.TheVariants.{Device}
use Rattle.fkv_keeper.specs.Keeping.{KeeperState, keeper_ask}
use Rattle.fkv_keeper.specs.KeeperAsks.{keeper_calls}
use Rattle.fkv_keeper.specs.KeeperRun.{is_in_hand}
use Rattle.fkv_session.specs.Sessions.{SessionState, is_busy, session_begun}
use Rattle.law_world.specs.GuardKeeper.DeviceCalls.{WritesSpareLog}
use Rattle.law_world.specs.GuardKeeper.KeeperEvents.{turn_asked_events}
use Rattle.law_world.proofs.OfGuardKeeper.NoCalls.{MakeNone, none_made, none_by_test}
use Rattle.law_world.proofs.OfGuardKeeper.StepCalls.{step_calls, turn_asked_none}
use Rattle.law_world.proofs.OfGuardKeeper.SparedWrites.{writes_spare_log}
use Rattle.fkv_world.specs.Moves.{session_moved}
use Rattle.fkv_world.specs.OwnEvents.{keeper_events}
use Rattle.fkv_world.specs.Past.{CommitAsked, Past, TurnAsked, calls_after, life_past}
use Rattle.fkv_world.specs.Runs.{World, happens, read_by_keeper, run}
use Rattle.fkv_world.specs.World.{Event, Calls, Moves, Commits, Turns, KeeperMoves, Crashes, Now, happens_now, near, seat_at}
use Rattle.fkv_world.proofs.Shown.{keeper_runs, shape_stays}
use Rattle.law_world.specs.Guarded.GuardEvents.{called_events, guard_events, keeper_now, life_events, mapped, moved_events}
use Rattle.law_world.specs.Guarded.OpenedStore.{IsOpenedStore}
use Rattle.law_world.specs.Guarded.Shows.{ArePermitted, Shows, guard_opening, seen_by_guard}
use Rattle.law_world.proofs.OfGuarded.Flushed.{life_synced}
use Rattle.law_world.proofs.OfGuarded.PastCalls.{begun_kept, call_kept, keeper_kept, move_kept}
use Rattle.law_world.proofs.OfGuarded.SessionCalls.{called_none, session_none}
use Rattle.law_world.proofs.OfGuarded.Worlds.{is_world_of, life_shows, runs_on, world_of}

-- calls of one list of events after another
calls_on : (w : GuardWorld) (later before : List GuardEvent) → calls_made w (later ++ before) ≡ calls_made (guard_run w before) later ++ calls_made w before
unfolding calls_made
calls_on w [] before = refl
calls_on w (event ∷ later) before =
    ap (λ (v : GuardWorld). event_calls v.now event ++ calls_made w (later ++ before)) (runs_on w later before)
    ∙ (ap (λ (calls : List device.Call). event_calls (guard_run (guard_run w before) later).now event ++ calls) (calls_on w later before)
    ∙ sym (append_assoc (event_calls (guard_run (guard_run w before) later).now event) (calls_made (guard_run w before) later) (calls_made w before)))

called : (n : Now) (i : ℕ) (call : Call) (found : Option SessionState) → MakeNone (called_events n i call found)
called n i call None = tt
called n i call (Some s) = none_by_test (is_busy s.step) [] _ tt (called_none (seat_at n i) (session_begun (seat_at n i) s call))

moved : (n : Now) (i : ℕ) (found : Option SessionState) → MakeNone (moved_events n i found)
moved n i None = tt
moved n i (Some s) = session_none (seat_at n i) n.words s (session_moved (seat_at n i) (near n s)).machine

-- events that make none, before others
none_more : (w : GuardWorld) (events : List GuardEvent) (calls after : List device.Call) → MakeNone events → after ≡ calls → calls_made w events ++ calls ≡ after
none_more w events calls after none kept = ap (λ (its : List device.Call). its ++ calls) (none_made w events none) ∙ sym kept

after_more : (ask : Ask KeeperTold) (made calls : List device.Call) → calls_after ask made [] ++ calls ≡ calls_after ask made calls
after_more (Done Device) made calls = append_assoc made [] calls
after_more (Done its) made calls = refl
after_more ask made calls = refl

-- One event, where the guard's world has what the engine's has.
module _ (n : Now) (actors : List Actor) (past : EpochPast) (shows : Shows n (world_of n actors past)) (spares : WritesSpareLog n.shape n.keeper n.keeper.step) (after : Now) (read : List ℕ) (p : Past) where
  abbrev w : GuardWorld
  w = world_of n actors past

  life_calls_of : (event : Event) → calls_made w (life_events n read event) ++ p.calls ≡ (life_past n after event p).calls
  unfolding life_events life_past calls_made
  life_calls_of (Calls i call) = none_more w (called_events n i call (slice_get n.sessions i)) p.calls _ (called n i call (slice_get n.sessions i)) (call_kept i call (slice_get n.sessions i) (slice_get after.sessions i) p)
  life_calls_of (Moves i) = none_more w (moved_events n i (slice_get n.sessions i)) p.calls _ (moved n i (slice_get n.sessions i)) (move_kept n i (slice_get n.sessions i) (slice_get after.sessions i) p)
  life_calls_of (Commits kind) = sym (begun_kept n.keeper after.keeper (CommitAsked kind) p)
  life_calls_of Turns = none_more w (turn_asked_events (keeper_now n) n.keeper) p.calls _ (turn_asked_none (keeper_now n) n.keeper) (begun_kept n.keeper after.keeper TurnAsked p)
  life_calls_of (KeeperMoves granted done) =
      let there = shows.keeper in
      ap (λ (its : List device.Call). its ++ p.calls) (step_calls w (keeper_now n) there.actor there.seen n.keeper granted done read there.keeps spares)
      ∙ (after_more (keeper_ask n.shape n.places n.keeper) (keeper_calls n.shape n.keeper done) p.calls
      ∙ sym (keeper_kept (is_in_hand n.keeper.step) after.keeper.step after.keeper.last _))
  life_calls_of Crashes = refl

  by_crash : (crashed : Bool) (event : Event) → calls_made w (if crashed then [] else life_events n read event) ++ p.calls ≡ (if crashed then p else life_past n after event p).calls
  unfolding calls_made
  by_crash true event = refl
  by_crash false event = life_calls_of event

-- One event of a life.
event_made : (b : World) (v : GuardWorld) (event : Event) → Shows b.now v → WritesSpareLog b.now.shape b.now.keeper b.now.keeper.step
    → calls_made v (guard_events b.now (read_by_keeper b) event) ++ b.past.calls ≡ (happens b event).past.calls
event_made b v event shows spares =
    let same = is_world_of b.now v shows in
    subst (λ (x : GuardWorld). calls_made x (guard_events b.now (read_by_keeper b) event) ++ b.past.calls ≡ (happens b event).past.calls) (sym same)
    (by_crash b.now v.now.actors v.past (subst (λ (x : GuardWorld). Shows b.now x) same shows) spares (happens_now b.now (read_by_keeper b) event) (read_by_keeper b) b.past b.now.crashed event)

-- what a commit writes ends where the log begins, at every moment
life_spares : (first : World) (start : ℕ) (events : List Event) → IsOpenedStore first start
    → WritesSpareLog (run first events).now.shape (run first events).now.keeper (run first events).now.keeper.step
life_spares first start events store =
    subst (λ (shape : Shape). WritesSpareLog shape (run first events).now.keeper (run first events).now.keeper.step) (sym (shape_stays first events))
    (subst (λ (s : KeeperState). WritesSpareLog first.now.shape s s.step) (sym (keeper_runs first events))
    (writes_spare_log first.now.shape first.now.places first.now.keeper (keeper_events first events) store.now.keeper store.now.buckets store.overflow))

-- a whole life
pub life_calls : (first : World) (start : ℕ) (events : List Event) → IsOpenedStore first start
    → calls_made (guard_opening first.now start) (mapped first events) ≡ (run first events).past.calls
unfolding run mapped calls_made
life_calls first start [] store = sym store.no_calls
life_calls first start (event ∷ before) store =
    let b : World = run first before in
    let w : GuardWorld = guard_opening first.now start in
    let its : List GuardEvent = guard_events b.now (read_by_keeper b) event in
    calls_on w its (mapped first before)
    ∙ (ap (λ (calls : List device.Call). calls_made (guard_run w (mapped first before)) its ++ calls) (life_calls first start before store)
    ∙ event_made b (seen_by_guard first start before) event (life_shows first start before store.now) (life_spares first start before store))

-- so what is flushed is synced by these
pub life_flushed : (first : World) (start : ℕ) (events : List Event) → IsOpenedStore first start → ArePermitted first events
    → IsSynced first.now.shape first.past.opened (run first events).past.calls (stands (guard_opening first.now start) (mapped first events)) start (levels_of (run first events).now.words).flushed
life_flushed first start events store permitted =
    subst (λ (calls : List device.Call). IsSynced first.now.shape first.past.opened calls (stands (guard_opening first.now start) (mapped first events)) start (levels_of (run first events).now.words).flushed) (life_calls first start events store)
    (life_synced first start events first.past.opened store.now permitted)
