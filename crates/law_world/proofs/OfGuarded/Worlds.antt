-- Each event of the engine is a list of the guard's events that keeps what the guard's world shows of it, and so is every life.
use Rattle.std.proofs.Common.{◌≡◌, ◌≢◌, ℕ, zero, suc, ◌<◌, ◌≤◌, ◌∙◌, refl, sym, ap, subst, arith, inl, inr, List, [], ◌∷◌, ◌++◌, Bool, true, false}
use Rattle.std.specs.Prelude.{if◌then◌else◌, Option, Some, None, slice_get, slice_set, replicate}
use Rattle.fkv_base.specs.declared.shapes.Shape.{Shape}
use Rattle.fkv_map.specs.declared.operations.Call.{Call}
use Rattle.fkv_plane.specs.declared.actions.Action.{Action}
use Rattle.fkv_plane.specs.declared.places.Places.{Places}
use Rattle.fkv_epoch.specs.EpochWorld.{EpochPast, own_epoch}
use Rattle.fkv_epoch.proofs.Shown.{item_spared, item_written, some_same}
use Rattle.fkv_flush.specs.GuardLevels.{levels_of, Rises}
use Rattle.fkv_flush.specs.GuardWorld.{Actor, GuardNow, GuardNear, GuardWorld, GuardEvent, near, put_near, with_actor, guard_happens, guard_run}
use Rattle.fkv_flush.specs.Guarded.{first_actor}
use Rattle.fkv_flush.proofs.Shown.{IsSound, run_sound, opening_sound, run_now, runs_now, put_there, events_calm, Fits}
use Rattle.fkv_index.proofs.Shown.{IsReading}
use Rattle.fkv_maintain.specs.Maintaining.{is_flush_resting}
use Rattle.fkv_sweep.specs.Sweeping.{Sweeper}
use Rattle.fkv_sweep.proofs.Shown.{sweep_begun_loading}
use Rattle.fkv_keeper.specs.declared.keepers.Keeping.{Keeping}
use Rattle.fkv_keeper.specs.declared.keepers.Keeping.TheVariants as keeping
use Rattle.fkv_keeper.specs.KeeperRun.{is_in_hand}
use Rattle.fkv_keeper.specs.KeeperRun as keepers
use Rattle.fkv_keeper.specs.Keeping.{KeeperState}
use Rattle.fkv_session.specs.declared.sessions.Sitting.{Sitting}
use Rattle.fkv_session.specs.declared.sessions.Sitting.TheVariants.{Idle}
use Rattle.fkv_session.specs.Sessions.{SessionState, is_busy, session_begun}
use Rattle.law_world.specs.GuardSessions.Followed.{SessionFollows}
use Rattle.law_world.specs.GuardSessions.Likenesses.{last_seen}
use Rattle.law_world.specs.GuardSessions.Rows.{SittingKnows}
use Rattle.law_world.specs.GuardSessions.Sessions.{sitting_likeness, called_guard_events}
use Rattle.law_world.proofs.OfGuardSessions.WorldSteps.{move_follows}
use Rattle.law_world.proofs.OfGuardSessions.Followed.{call_follows}
use Rattle.law_world.specs.GuardKeeper.Followed.{KeeperGoes, likeness}
use Rattle.law_world.specs.GuardKeeper.KeeperActors.{actor_by, is_aside, keeper_actor, keeping_aside, other_actor, other_by, work_by}
use Rattle.law_world.specs.GuardKeeper.KeeperEvents.{keeper_move_events}
use Rattle.law_world.specs.GuardKeeper.KeeperShown.{KeeperKnows, KeepingKnows, OfStore, keeping_machine, keeping_work}
use Rattle.law_world.proofs.OfGuardKeeper.Asked.{knowledge_stays}
use Rattle.law_world.proofs.OfGuardKeeper.Goes.{keeper_goes, turn_goes, commit_goes}
use Rattle.fkv_world.specs.World as world
use Rattle.fkv_world.specs.World.{Event, Calls, Moves, Commits, Turns, KeeperMoves, Crashes, Now, seat_at, with_session, with_keeper, session_called, session_calls, session_moves, life_goes, happens_now}
use Rattle.fkv_world.specs.Moves.{Near, session_moved, keeper_moved}
use Rattle.fkv_world.specs.Runs.{World, run, read_by_keeper}
use Rattle.law_world.specs.Guarded.GuardEvents.{moved_events, called_events, actor_count, keeper_now, keeper_number, life_events, guard_events, mapped}
use Rattle.law_world.specs.Guarded.Shows.{IsOpened, IsSeated, IsKept, Shows, guard_opening, seen_by_guard}
use Rattle.law_world.proofs.OfGuarded.Outer.{WriteOuter, AllWriteOuter, all_write_outer}
use Rattle.law_world.proofs.OfGuarded.OneStep.{IsStep, of_others}
use Rattle.law_world.proofs.OfGuarded.SessionSteps.{session_steps, called_steps}
use Rattle.law_world.proofs.OfGuarded.KeeperSteps.{actor_above, other_above, keeper_steps, turn_asked_steps}

-- what a step leaves as it was, in another world of the guard: all that is of actors apart from it
pub record LeavesOthers (w v : GuardWorld) (Apart : ℕ → Type 0) : Type 0 where
  pub sound : IsSound v
  pub shape : v.now.shape ≡ w.now.shape
  pub places : v.now.places ≡ w.now.places
  pub actors : (b : ℕ) → Apart b → slice_get v.now.actors b ≡ slice_get w.now.actors b
  pub offsets : Rises (levels_of w.now.words) (levels_of v.now.words)
  pub epochs : (b : ℕ) → Apart b → b < w.now.places.sessions → own_epoch v.now.words b ≡ own_epoch w.now.words b

-- one actor's step
leaves_others : (w : GuardWorld) (keeper a : ℕ) (events : List GuardEvent) (here : GuardNear) → IsSound w → a < keeper → IsStep keeper a events → runs_now w.now events ≡ put_near w.now a here → LeavesOthers w (guard_run w events) (λ b. a ≢ b)
leaves_others w keeper a events here sound below step led =
    let same : (guard_run w events).now ≡ put_near w.now a here = run_now w events ∙ led in
    let calm = events_calm w events sound in
    record {
      sound = run_sound w events sound;
      shape = ap (λ (m : GuardNow). m.shape) same;
      places = ap (λ (m : GuardNow). m.places) same;
      actors = λ b other. ap (λ (m : GuardNow). slice_get m.actors b) same ∙ item_spared w.now.actors a b here.actor (λ e. other (sym e));
      offsets = calm.offsets;
      epochs = λ b other low. calm.others b low (of_others keeper a events step b other (inl below));
    }

below_other : (i j : ℕ) → i < j → i ≢ j
below_other i j low e = absurd (omega (arith, low, e))

above_other : (k a b : ℕ) → k ≤ a → b < k → b ≢ a
above_other k a b up low e = absurd (omega (arith, up, low, e))

-- the keeper's step, of its two actors
keeper_leaves : (w : GuardWorld) (k a o : ℕ) (events : List GuardEvent) (other : Actor) (here : GuardNear) → IsSound w → (acts : ℕ) → k ≤ acts → IsStep k acts events → k ≤ a → k ≤ o
    → runs_now w.now events ≡ put_near (with_actor w.now o other) a here → LeavesOthers w (guard_run w events) (λ b. b < k)
keeper_leaves w k a o events other here sound acts up step above over led =
    let same : (guard_run w events).now ≡ put_near (with_actor w.now o other) a here = run_now w events ∙ led in
    let calm = events_calm w events sound in
    record {
      sound = run_sound w events sound;
      shape = ap (λ (m : GuardNow). m.shape) same;
      places = ap (λ (m : GuardNow). m.places) same;
      actors = λ b low.
          ap (λ (m : GuardNow). slice_get m.actors b) same
          ∙ item_spared (slice_set w.now.actors o other) a b here.actor (above_other k a b above low)
          ∙ item_spared w.now.actors o b other (above_other k o b over low);
      offsets = calm.offsets;
      epochs = λ b low seat. calm.others b seat (of_others k acts events step b (λ e. above_other k acts b up low (sym e)) (inr low));
    }

-- so another session sits where it sat, and the keeper is where it was
session_stays : (w v : GuardWorld) (Apart : ℕ → Type 0) (b : ℕ) (s : SessionState) → LeavesOthers w v Apart → Apart b → IsSeated w b s → IsSeated v b s
session_stays w v Apart b s left other seat =
    let sits = seat.sits in
    record {
      actor = seat.actor;
      sits = record {
        sound = left.sound;
        got = left.actors b other ∙ sits.got;
        below = subst (λ (p : Places). b < p.sessions) (sym left.places) sits.below;
        knows = sits.knows;
        protected = λ e. subst (λ (x : ℕ). 0 < x) (sym (left.epochs b other sits.below)) (sits.protected e);
        fits = sits.fits;
      };
    }

keeper_stays : (w v : GuardWorld) (Apart : ℕ → Type 0) (k : ℕ) (s : KeeperState) → LeavesOthers w v Apart → ((b : ℕ) → k ≤ b → Apart b) → IsKept w k s → IsKept v k s
keeper_stays w v Apart k s left apart there =
    let keeps = there.keeps in
    record {
      actor = there.actor;
      seen = there.seen;
      keeps = record {
        sound = left.sound;
        got = left.actors (keeper_actor k s) (apart (keeper_actor k s) (actor_above k s)) ∙ keeps.got;
        fits = keeps.fits;
        knows = subst (λ (p : Places). KeeperKnows (levels_of v.now.words) p s) (sym left.places) (knowledge_stays (levels_of w.now.words) (levels_of v.now.words) w.now.places s left.offsets keeps.knows);
      };
      aside = record { other = there.aside.other; got = left.actors (other_actor k s) (apart (other_actor k s) (other_above k s)) ∙ there.aside.got; fits = there.aside.fits };
    }

-- what an index has where an item was put
data PutAt {X : Type 0} (xs : List X) (i j : ℕ) (y z : X) : Type 0 where
  Here : j ≡ i → z ≡ y → PutAt xs i j y z
  There : i ≢ j → slice_get xs j ≡ Some z → PutAt xs i j y z

put_at : {X : Type 0} (xs : List X) (i j : ℕ) (y z : X) → slice_get (slice_set xs i y) j ≡ Some z → PutAt xs i j y z
put_at [] i j y z got = cc
put_at (x ∷ xs) zero zero y z got = Here refl cc
put_at (x ∷ xs) zero (suc j) y z got = There (λ e. cc) got
put_at (x ∷ xs) (suc i) zero y z got = There (λ e. cc) got
put_at (x ∷ xs) (suc i) (suc j) y z got = elim (put_at xs i j y z got) [
  | Here same its ↦ Here (ap suc same) its
  | There other its ↦ There (λ e. other (omega (arith, e))) its
]

-- one session has gone on, and its actor with it
session_put : (n : Now) (w : GuardWorld) (i : ℕ) (s : SessionState) (its : Near SessionState) (events : List GuardEvent) → Shows n w → slice_get n.sessions i ≡ Some s → IsStep (keeper_number n) i events
    → SessionFollows w.now i events its.machine its.words its.actions → Shows (with_session n i its) (guard_run w events)
session_put n w i s its events shows there step f =
    let v : GuardWorld = guard_run w events in
    let seat = shows.sessions i s there in
    let here : GuardNear = near its.words its.actions f.follows.actor in
    let same : v.now ≡ put_near w.now i here = run_now w events ∙ f.follows.same in
    let low : i < keeper_number n = subst (λ (p : Places). i < p.sessions) shows.places seat.sits.below in
    let left = leaves_others w (keeper_number n) i events here shows.sound low step f.follows.same in
    let sits_here : IsSeated v i its.machine = record {
      actor = f.follows.actor;
      sits = record {
        sound = left.sound;
        got = ap (λ (m : GuardNow). slice_get m.actors i) same ∙ put_there w.now i seat.actor here seat.sits.got;
        below = subst (λ (p : Places). i < p.sessions) (sym left.places) seat.sits.below;
        knows = f.knows;
        protected = λ e. subst (λ (m : GuardNow). 0 < own_epoch m.words i) (sym same) (f.protected e);
        fits = f.follows.fits;
      };
    } in
    record {
      sound = left.sound;
      shape = left.shape ∙ shows.shape;
      places = left.places ∙ shows.places;
      words = ap (λ (m : GuardNow). m.words) same;
      actions = ap (λ (m : GuardNow). m.actions) same;
      sessions = λ j t at. elim (put_at n.sessions i j its.machine t at) [
        | Here at_it is_it ↦ subst (λ (number : ℕ). IsSeated v number t) (sym at_it) (subst (λ (x : SessionState). IsSeated v i x) (sym is_it) sits_here)
        | There other got ↦ session_stays w v (λ b. i ≢ b) j t left other (shows.sessions j t got)
      ];
      keeper = keeper_stays w v (λ b. i ≢ b) (keeper_number n) n.keeper left (λ b up. below_other i b (omega (arith, low, up))) shows.keeper;
    }

-- the keeper's two actors are there, before its step and behind it
abbrev HasItem : List Actor → ℕ → Type 0
HasItem actors i = (z : Actor) × (slice_get actors i ≡ Some z)

first_item : (k : ℕ) (actors : List Actor) (aside : Bool) (x y : Actor) → slice_get actors (actor_by k aside) ≡ Some x → slice_get actors (other_by k aside) ≡ Some y → HasItem actors k
first_item k actors true x y got other = (y, other)
first_item k actors false x y got other = (x, got)

second_item : (k : ℕ) (actors : List Actor) (aside : Bool) (x y : Actor) → slice_get actors (actor_by k aside) ≡ Some x → slice_get actors (other_by k aside) ≡ Some y → HasItem actors (suc k)
second_item k actors true x y got other = (x, got)
second_item k actors false x y got other = (y, other)

next_other : (k : ℕ) → k ≢ suc k
next_other k e = absurd (omega (arith, e))

put_both : (k : ℕ) (actors : List Actor) (aside : Bool) (other actor : Actor) → HasItem actors k → HasItem actors (suc k)
    → (let there : List Actor = slice_set (slice_set actors (other_by k aside) other) (actor_by k aside) actor in
    (slice_get there (actor_by k aside) ≡ Some actor) × (slice_get there (other_by k aside) ≡ Some other))
put_both k actors true other actor first second = (
  item_written (slice_set actors k other) (suc k) second.0 actor (item_spared actors k (suc k) other (λ e. next_other k (sym e)) ∙ second.1),
  item_spared (slice_set actors k other) (suc k) k actor (next_other k) ∙ item_written actors k first.0 other first.1,
)
put_both k actors false other actor first second = (
  item_written (slice_set actors (suc k) other) k first.0 actor (item_spared actors (suc k) k other (next_other k) ∙ first.1),
  item_spared (slice_set actors (suc k) other) k (suc k) actor (λ e. next_other k (sym e)) ∙ item_written actors (suc k) second.0 other second.1,
)

-- the keeper has gone on, and its two actors with it
keeper_put : (n : Now) (w : GuardWorld) (its : Near KeeperState) (events : List GuardEvent) → Shows n w → IsStep (keeper_number n) (keeper_now n) events
    → KeeperGoes w.now (keeper_number n) events its.machine its.words its.actions → Shows (with_keeper n its) (guard_run w events)
keeper_put n w its events shows step f =
    let v : GuardWorld = guard_run w events in
    let k : ℕ = keeper_number n in
    let a : ℕ = keeper_actor k its.machine in
    let o : ℕ = other_actor k its.machine in
    let here : GuardNear = near its.words its.actions f.actor in
    let same : v.now ≡ put_near (with_actor w.now o f.other) a here = run_now w events ∙ f.same in
    let left = keeper_leaves w k a o events f.other here shows.sound (keeper_now n) (actor_above k n.keeper) step (actor_above k its.machine) (other_above k its.machine) f.same in
    let x = shows.keeper in
    let both = put_both k w.now.actors (is_aside its.machine) f.other f.actor (first_item k w.now.actors (is_aside n.keeper) x.actor x.aside.other x.keeps.got x.aside.got) (second_item k w.now.actors (is_aside n.keeper) x.actor x.aside.other x.keeps.got x.aside.got) in
    record {
      sound = left.sound;
      shape = left.shape ∙ shows.shape;
      places = left.places ∙ shows.places;
      words = ap (λ (m : GuardNow). m.words) same;
      actions = ap (λ (m : GuardNow). m.actions) same;
      sessions = λ j t at.
          let seat = shows.sessions j t at in
          let low = subst (λ (p : Places). j < p.sessions) shows.places seat.sits.below in
          session_stays w v (λ b. b < k) j t left low seat;
      keeper = record {
        actor = f.actor;
        seen = f.seen;
        keeps = record {
          sound = left.sound;
          got = ap (λ (m : GuardNow). slice_get m.actors a) same ∙ both.0;
          fits = f.fits;
          knows = subst (λ (m : GuardNow). KeeperKnows (levels_of m.words) m.places its.machine) (sym same) f.knows;
        };
        aside = record { other = f.other; got = ap (λ (m : GuardNow). slice_get m.actors o) same ∙ both.1; fits = f.aside };
      };
    }

-- the guard's world with what the engine's has, and with these actors
abbrev pub world_of : Now → List Actor → EpochPast → GuardWorld
world_of n actors past = record { now = record { shape = n.shape; places = n.places; words = n.words; actions = n.actions; actors = actors }; past = past }

pub is_world_of : (n : Now) (w : GuardWorld) → Shows n w → w ≡ world_of n w.now.actors w.past
is_world_of n w shows =
    ap (λ (x : Shape). record { now = record w.now { shape = x }; past = w.past }) shows.shape
    ∙ ap (λ (x : Places). record { now = record w.now { shape = n.shape; places = x }; past = w.past }) shows.places
    ∙ ap (λ (x : List ℕ). record { now = record w.now { shape = n.shape; places = n.places; words = x }; past = w.past }) shows.words
    ∙ ap (λ (x : List (Option Action)). record { now = record { shape = n.shape; places = n.places; words = n.words; actions = x; actors = w.now.actors }; past = w.past }) shows.actions

set_same : {X : Type 0} (xs : List X) (i : ℕ) (x : X) → slice_get xs i ≡ Some x → slice_set xs i x ≡ xs
set_same [] i x got = refl
set_same (y ∷ xs) zero x got = ap (λ z. z ∷ xs) (sym (some_same y x got))
set_same (y ∷ xs) (suc i) x got = ap (λ zs. y ∷ zs) (set_same xs i x got)

-- Each event, where the guard's world has what the engine's has.
module _ (n : Now) (actors : List Actor) (past : EpochPast) (shows : Shows n (world_of n actors past)) where
  abbrev W : GuardWorld
  W = world_of n actors past

  abbrev Leads : Now → List GuardEvent → Type 0
  Leads there events = Shows there (guard_run W events)

  calls : (i : ℕ) (call : Call) (found : Option SessionState) → slice_get n.sessions i ≡ found → Leads (session_calls n i call found) (called_events n i call found)
  unfolding guard_run
  calls i call None there = shows
  calls i call (Some s) there = by_busy (is_busy s.step) refl
    where
      by_busy : (b : Bool) → is_busy s.step ≡ b
          → Leads (with_session n i (world.near n (if b then s else session_begun (seat_at n i) s call))) (if b then [] else called_guard_events (seat_at n i) (session_begun (seat_at n i) s call))
      by_busy true e =
          let sits = (shows.sessions i s there).sits in
          session_put n W i s (world.near n s) [] shows there tt (record {
            follows = record { actor = (shows.sessions i s there).actor; same = stays; fits = sits.fits };
            knows = sits.knows;
            protected = sits.protected;
          })
        where
          stays : W.now ≡ put_near W.now i (near n.words n.actions (shows.sessions i s there).actor)
          stays = ap (λ (xs : List Actor). record W.now { actors = xs }) (sym (set_same actors i (shows.sessions i s there).actor (shows.sessions i s there).sits.got))
      by_busy false e =
          let seat = shows.sessions i s there in
          let sits = seat.sits in
          session_put n W i s (world.near n (session_begun (seat_at n i) s call)) _ shows there (called_steps (keeper_number n) (seat_at n i) (session_begun (seat_at n i) s call))
          (call_follows W.now i seat.actor s call sits.got sits.below e sits.protected sits.fits)

  pub moves : (i : ℕ) (found : Option SessionState) → slice_get n.sessions i ≡ found → WriteOuter n → Leads (session_moves n i found) (moved_events n i found)
  unfolding guard_run
  moves i None there outer = shows
  moves i (Some s) there outer =
      let seat = shows.sessions i s there in
      let after : Near SessionState = session_moved (seat_at n i) (world.near n s) in
      session_put n W i s after _ shows there (session_steps (keeper_number n) (seat_at n i) n.words s after.machine) (move_follows W i seat.actor s seat.sits (outer i s there))

  pub keeps : (granted done : Bool) (read : List ℕ)
      → Leads (with_keeper n (keeper_moved n.shape n.places granted done read (world.near n n.keeper))) (keeper_move_events (keeper_now n) n.shape n.places granted done read n.keeper n.words)
  keeps granted done read =
      let there = shows.keeper in
      keeper_put n W (keeper_moved n.shape n.places granted done read (world.near n n.keeper)) _ shows (keeper_steps (keeper_number n) n.shape n.places granted done read n.keeper n.words)
      (keeper_goes W (keeper_number n) there.actor there.seen n.keeper granted done read there.keeps there.aside)

  goes : (read : List ℕ) (event : Event) → WriteOuter n → Leads (life_goes n read event) (life_events n read event)
  unfolding life_goes life_events guard_run
  goes read (Calls i call) outer = calls i call (slice_get n.sessions i) refl
  goes read (Moves i) outer = moves i (slice_get n.sessions i) refl outer
  goes read (Commits kind) outer =
      let there = shows.keeper in
      keeper_put n W _ [] shows tt (commit_goes W (keeper_number n) there.actor there.seen n.keeper kind there.keeps there.aside)
  goes read Turns outer =
      let there = shows.keeper in
      keeper_put n W _ _ shows (turn_asked_steps (keeper_number n) n.keeper) (turn_goes W (keeper_number n) there.actor there.seen n.keeper there.keeps there.aside)
  goes read (KeeperMoves granted done) outer = keeps granted done read
  goes read Crashes outer = record { sound = shows.sound; shape = shows.shape; places = shows.places; words = shows.words; actions = shows.actions; sessions = shows.sessions; keeper = shows.keeper }

  happens : (read : List ℕ) (event : Event) → WriteOuter n → Leads (happens_now n read event) (guard_events n read event)
  unfolding guard_run
  happens read event outer = by_crash n.crashed
    where
      by_crash : (b : Bool) → Leads (if b then n else life_goes n read event) (if b then [] else life_events n read event)
      by_crash true = shows
      by_crash false = goes read event outer

-- One event of the engine.
pub happens_shows : (n : Now) (w : GuardWorld) (read : List ℕ) (event : Event) → WriteOuter n → Shows n w → Shows (happens_now n read event) (guard_run w (guard_events n read event))
happens_shows n w read event outer shows =
    let same = is_world_of n w shows in
    let actors : List Actor = w.now.actors in
    let past : EpochPast = w.past in
    subst (λ (v : GuardWorld). Shows (happens_now n read event) (guard_run v (guard_events n read event))) (sym same)
    (happens n actors past (subst (λ (v : GuardWorld). Shows n v) same shows) read event outer)

-- the events of two lists, one after the other
pub runs_on : (w : GuardWorld) (later before : List GuardEvent) → guard_run w (later ++ before) ≡ guard_run (guard_run w before) later
unfolding guard_run
runs_on w [] before = refl
runs_on w (event ∷ later) before = ap (λ (v : GuardWorld). guard_happens v event) (runs_on w later before)

-- every life
pub run_shows : (first : World) (events : List Event) (w : GuardWorld) → AllWriteOuter first events → Shows first.now w → Shows (run first events).now (guard_run w (mapped first events))
unfolding run mapped guard_run
run_shows first [] w outer shows = shows
run_shows first (event ∷ before) w outer shows =
    let b : World = run first before in
    subst (λ (x : GuardWorld). Shows (run first (event ∷ before)).now x) (sym (runs_on w (guard_events b.now (read_by_keeper b) event) (mapped first before)))
    (happens_shows b.now (guard_run w (mapped first before)) (read_by_keeper b) event outer.0 (run_shows first before w outer.1 shows))

-- As a life begins.
replicated : {X : Type 0} (m j : ℕ) (x : X) → j < m → slice_get (replicate m x) j ≡ Some x
replicated zero j x low = absurd (omega (arith, low))
replicated (suc m) zero x low = refl
replicated (suc m) (suc j) x low = replicated m j x (omega (arith, low))

opened_session : (w : GuardWorld) (i start closed : ℕ) (s : SessionState) (step : Sitting) → s.step ≡ step → is_busy step ≡ false → IsSound w → slice_get w.now.actors i ≡ Some (first_actor start closed) → i < w.now.places.sessions → 0 < own_epoch w.now.words i
    → last_seen s.seen ≡ record { read_only = start; head = closed } → IsSeated w i s
opened_session w i start closed s (Idle told) at idle sound got low awake saw = record {
  actor = first_actor start closed;
  sits = record {
    sound = sound;
    got = got;
    below = low;
    knows = subst (λ (step : Sitting). SittingKnows s step) (sym at) tt;
    protected = λ e. awake;
    fits = subst (λ (step : Sitting). Fits (sitting_likeness s step) (first_actor start closed)) (sym at) (record { machine = refl; work = refl; seen = sym saw; undecided = refl });
  };
}
opened_session w i start closed s step at idle sound got low awake saw = cc

-- no flush rests as the store is opened
opened_keeper : (w : GuardWorld) (k start closed : ℕ) (s : KeeperState) (step : Keeping) → s.step ≡ step → is_in_hand step ≡ false → is_flush_resting s.maintain ≡ false → IsSound w
    → slice_get w.now.actors k ≡ Some (first_actor start closed) → slice_get w.now.actors (suc k) ≡ Some (first_actor start closed) → OfStore w.now.places s → IsKept w k s
opened_keeper w k start closed s (keeping.Ended told) at none awake sound got behind same =
    let calm : is_aside s ≡ false = ap (λ (step : Keeping). keeping_aside s step) at ∙ awake in
    record {
      actor = first_actor start closed;
      seen = record { read_only = start; head = closed };
      keeps = record {
        sound = sound;
        got = ap (λ (b : Bool). slice_get w.now.actors (actor_by k b)) calm ∙ got;
        fits = subst (λ (step : Keeping). Fits (likeness (record { read_only = start; head = closed }) (keeping_machine s step) (keeping_work s step)) (first_actor start closed)) (sym at) (record { machine = refl; work = refl; seen = refl; undecided = refl });
        knows = record { sessions = same.0; loads = same.1; its = subst (λ (step : Keeping). KeepingKnows (levels_of w.now.words) s step) (sym at) tt };
      };
      aside = record {
        other = first_actor start closed;
        got = ap (λ (b : Bool). slice_get w.now.actors (other_by k b)) calm ∙ behind;
        fits = subst (λ (b : Bool). Fits (likeness (record { read_only = start; head = closed }) None (work_by b s.maintain)) (first_actor start closed)) (sym calm) (record { machine = refl; work = refl; seen = refl; undecided = refl });
      };
    }
opened_keeper w k start closed s step at none awake sound got behind same = cc

one_some : (x : ℕ) → x ≡ 1 → 0 < x
one_some x e = omega (arith, e)

later : (i m : ℕ) → i < m → i < suc (suc m)
later i m low = omega (arith, low)

first_own : (m : ℕ) → m < suc (suc m)
first_own m = omega arith

second_own : (m : ℕ) → suc m < suc (suc m)
second_own m = omega arith

-- a sweep that has nothing to go over has no search yet
opened_reads : (s : KeeperState) → keepers.IsOpened s → IsReading s.sweep.finding
opened_reads s opened =
    let its = opened.none_swept in
    subst (λ (w : Sweeper). IsReading w.finding) (sym its.2) (sweep_begun_loading its.0 its.1 s.last.begin s.last.begin).reads

pub opening_shows : (n : Now) (start : ℕ) → IsOpened n start → Shows n (guard_opening n start)
opening_shows n start opened =
    let w : GuardWorld = guard_opening n start in
    let k : ℕ = keeper_number n in
    let first : Actor = first_actor start (levels_of n.words).closed in
    let sound = opening_sound n.shape n.places (actor_count n) n.words start opened.words in
    record {
      sound = sound;
      shape = refl;
      places = refl;
      words = refl;
      actions = sym opened.slots;
      sessions = λ i s at.
          let its = opened.sessions i s at in
          let low = opened.seats i s at in
          opened_session w i start (levels_of n.words).closed s s.step refl its.none_in_hand sound (replicated (actor_count n) i first (later i k low)) low
          (one_some (own_epoch n.words i) (opened.words.epochs.awake i low)) (opened.seen i s at);
      keeper = opened_keeper w k start (levels_of n.words).closed n.keeper n.keeper.step refl opened.keeper.none_in_hand opened.keeper.none_flushed sound
          (replicated (actor_count n) k first (first_own k)) (replicated (actor_count n) (suc k) first (second_own k)) (opened.finishes, opened_reads n.keeper opened.keeper);
    }

-- so what the guard sees of a life shows it
pub life_shows : (first : World) (start : ℕ) (events : List Event) → IsOpened first.now start → Shows (run first events).now (seen_by_guard first start events)
life_shows first start events opened = run_shows first events (guard_opening first.now start) (all_write_outer first start events opened) (opening_shows first.now start opened)
