-- Where a turn has finished a commit, the commit was in hand at an earlier moment, sealed and not finished.
use Rattle.std.proofs.Common.{◌≡◌, ◌⊎◌, inl, inr, ℕ, ◌∙◌, List, [], ◌∷◌, ◌++◌, refl, ap, sym, subst, Bool, true, false}
use Rattle.std.specs.Prelude.{Option, Some, None, if◌then◌else◌}
use Rattle.fkv_base.specs.declared.shapes.Shape.{Shape}
use Rattle.law_order.specs.Below.fkv_keeper.CheckpointLaws.{MayFollow, MayStep}
use Rattle.law_order.specs.Below.fkv_keeper.KeeperTold.{KeeperTold}
use Rattle.law_order.specs.Below.fkv_keeper.KeeperTold.TheVariants.{Device, Turned}
use Rattle.law_order.specs.Below.fkv_keeper.TheKeeping.{Keeping}
use Rattle.law_order.specs.Below.fkv_keeper.TheKeeping.TheVariants.{Ended, Starts, Maintains, LoadsPhase, Enters, Copies, Seeks, Waits, Writes, Finishes, Sweeps}
use Rattle.law_order.specs.Below.fkv_keeper.Keeping.{KeeperState, come_to, keeper_ask, keeper_next, keeping_called, keeping_given, keeping_next}
use Rattle.law_order.specs.Below.fkv_keeper.KeeperRun.{KeeperEvent, BeginsTurn, BeginsCommit, Replies, Gets, Calls, IsOpened, is_calling, keeper_happens, keeper_run}
use Rattle.law_order.specs.Below.fkv_keeper.KeeperLaws.{MayRest}
use Rattle.law_order.proofs.Below.fkv_keeper.Shown.{each_move, run_number, run_rests}
use Rattle.fkv_plane.specs.Asked.{reply_to}
use Rattle.fkv_plane.specs.Plane.{action_at}
use Rattle.fkv_plane.specs.declared.actions.Action.{Action}
use Rattle.fkv_plane.specs.declared.asks.Ask.{Ask}
use Rattle.fkv_plane.specs.declared.asks.Ask.TheVariants.{Put, Take, Done}
use Rattle.fkv_plane.specs.declared.places.Places.{Places}
use Rattle.law_order.specs.Below.fkv_world.Opened.{IsOpenedWorld}
use Rattle.law_order.specs.Below.fkv_world.OwnEvents.{keeper_events, keeper_got, keeper_part, keeper_part_of, keeper_slots, keeper_steps}
use Rattle.law_order.specs.Below.fkv_world.Runs.{World, read_by_keeper, run}
use Rattle.law_order.specs.Below.fkv_world.World as world
use Rattle.law_order.specs.Below.fkv_world.World.{Event, near}
use Rattle.law_order.proofs.Below.fkv_world.Shown.{keeper_runs}
use Rattle.law_order.proofs.Below.law_world.OfKeeper.OwnRun.{of_keeper, to_keeper}
use Rattle.law_order.specs.Below.law_commit.BegunCommits.{BegunCommit, begun_by, commit_opened, commits_begun, life_begun, with_finished}
use Rattle.law_order.specs.Below.law_commit.HeldCommits.{AtKeeping, IsInHand}
use Rattle.law_order.proofs.Below.law_commit.Shown.{life_stands}

-- ---- what an event of the world is for the keeper: one call of the device, or events that call no device
abbrev IsQuiet : KeeperEvent → Type 0
IsQuiet (Calls done bytes) = ⊥
IsQuiet event = Unit {0}

abbrev AreQuiet : List KeeperEvent → Type 0
AreQuiet [] = Unit {0}
AreQuiet (event ∷ before) = IsQuiet event × AreQuiet before

abbrev IsQuietOrCall : List KeeperEvent → Type 0
IsQuietOrCall its = AreQuiet its ⊎ ((event : KeeperEvent) × (its ≡ event ∷ []))

both_quiet : (its before : List KeeperEvent) → AreQuiet its → AreQuiet before → AreQuiet (its ++ before)
both_quiet [] before quiet more = more
both_quiet (event ∷ its) before quiet more = (quiet.0, both_quiet its before quiet.1 more)

got_quiet : (found : Option Action) → AreQuiet (keeper_got found)
got_quiet None = tt
got_quiet (Some action) = (tt, tt)

slots_quiet : (actions : List (Option Action)) (granted : Bool) (ask : Ask KeeperTold) → AreQuiet (keeper_slots actions granted ask)
unfolding keeper_slots
slots_quiet actions granted (Put slot action) = (tt, tt)
slots_quiet actions granted (Take slot) = got_quiet (action_at actions slot)
slots_quiet actions granted ask = tt

steps_are : (shape : Shape) (p : Places) (granted done : Bool) (read cells : List ℕ) (actions : List (Option Action)) (s : KeeperState) (ask : Ask KeeperTold)
    → IsQuietOrCall (keeper_steps shape p granted done read (record { machine = s; words = cells; actions = actions }) ask)
unfolding keeper_steps
steps_are shape p granted done read cells actions s (Done Device) = inr (Calls done read, refl)
steps_are shape p granted done read cells actions s (Done its) = inl tt
steps_are shape p granted done read cells actions s (Put slot action) = inl (slots_quiet actions granted (Put slot action))
steps_are shape p granted done read cells actions s (Take slot) = inl (slots_quiet actions granted (Take slot))
steps_are shape p granted done read cells actions s ask =
    inl (both_quiet (keeper_slots actions granted (keeper_ask shape p (keeper_next shape p s (reply_to cells ask) granted))) (Replies (reply_to cells ask) granted ∷ [])
    (slots_quiet actions granted (keeper_ask shape p (keeper_next shape p s (reply_to cells ask) granted))) (tt, tt))

part_is : (w : World) (event : Event) → IsQuietOrCall (keeper_part w.now.shape w.now.places (read_by_keeper w) (near w.now w.now.keeper) event)
unfolding keeper_part
part_is w (world.Commits kind) = inl (tt, tt)
part_is w world.Turns = inl (tt, tt)
part_is w (world.KeeperMoves granted done) = steps_are w.now.shape w.now.places granted done (read_by_keeper w) w.now.words w.now.actions w.now.keeper (keeper_ask w.now.shape w.now.places w.now.keeper)
part_is w event = inl tt

unless_crashed : (crashed : Bool) (its : List KeeperEvent) → IsQuietOrCall its → IsQuietOrCall (if crashed then [] else its)
unless_crashed true its is = inl tt
unless_crashed false its is = is

-- ---- one event of the keeper's own
-- where no call is in hand, and none is begun, nothing happens
idle_same : (shape : Shape) (p : Places) (s : KeeperState) (step : Keeping) (event : KeeperEvent) → s.step ≡ step → is_calling step event ≡ false → keeper_happens shape p s event ≡ s
unfolding keeper_happens keeping_next keeping_given keeping_called
idle_same shape p s (Ended its) BeginsTurn e idles = cc
idle_same shape p s (Ended its) (BeginsCommit kind) e idles = cc
idle_same shape p s (Ended its) (Replies reply granted) e idles = rw e refl
idle_same shape p s (Ended its) (Gets action) e idles = rw e refl
idle_same shape p s (Ended its) (Calls done bytes) e idles = rw e refl
idle_same shape p s step event e idles = cc

idle_begun : (s : KeeperState) (step : Keeping) (event : KeeperEvent) (after : Keeping) (begun : List BegunCommit) → is_calling step event ≡ false → begun_by s step event after begun ≡ begun
idle_begun s (Ended its) event after begun idles = refl
idle_begun s step event after begun idles = cc

-- a commit's writes wait for their calls of the device
writes_stay : (shape : Shape) (p : Places) (s : KeeperState) (event : KeeperEvent) → s.step ≡ Writes → IsQuiet event → keeper_happens shape p s event ≡ s
unfolding keeper_happens keeping_next keeping_given
writes_stay shape p s BeginsTurn e quiet = rw e refl
writes_stay shape p s (BeginsCommit kind) e quiet = rw e refl
writes_stay shape p s (Replies reply granted) e quiet = rw e refl
writes_stay shape p s (Gets action) e quiet = rw e refl
writes_stay shape p s (Calls done bytes) e quiet = absurd quiet

-- no writes that rest come to a finish at once
steps_what : (rests : Bool) (step : Keeping) → MayStep rests step Finishes → MayFollow step Finishes
steps_what true LoadsPhase steps = steps
steps_what rests step steps = steps

follows_what : (step : Keeping) → MayFollow step Finishes → (step ≡ Writes) ⊎ (step ≡ Finishes)
follows_what Writes follows = inl refl
follows_what Finishes follows = inr refl
follows_what (Ended its) follows = absurd follows
follows_what Starts follows = absurd follows
follows_what Maintains follows = absurd follows
follows_what LoadsPhase follows = absurd follows
follows_what Enters follows = absurd follows
follows_what Copies follows = absurd follows
follows_what Seeks follows = absurd follows
follows_what Waits follows = absurd follows
follows_what Sweeps follows = absurd follows

not_writing : Writes ≡ Finishes → ⊥
not_writing e = cc

-- so without one a finish was so before
finishes_before : (shape : Shape) (p : Places) (s : KeeperState) (event : KeeperEvent) → IsQuiet event → (keeper_happens shape p s event).step ≡ Finishes → s.step ≡ Finishes
finishes_before shape p s event quiet e = by_step (follows_what s.step (steps_what s.rests s.step (subst (λ (after : Keeping). MayStep s.rests s.step after) e (each_move shape p s event).one.steps)))
  where
    by_step : (s.step ≡ Writes) ⊎ (s.step ≡ Finishes) → s.step ≡ Finishes
    by_step (inl writes) = absurd (not_writing (sym writes ∙ (sym (ap (λ (x : KeeperState). x.step) (writes_stay shape p s event writes quiet)) ∙ e)))
    by_step (inr finishes) = finishes

-- ---- over a run of the keeper
module _ (shape : Shape) (p : Places) (opening : KeeperState) (first : List BegunCommit) (opened : IsOpened opening) (full : Bool) where
  abbrev state : List KeeperEvent → KeeperState
  state own = keeper_run shape p opening own

  abbrev begun : List KeeperEvent → List BegunCommit
  begun own = commits_begun shape p opening first own

  -- behind what the keeper does a commit has finished that was being finished, or nothing has begun or finished
  abbrev HasMade : List KeeperEvent → List KeeperEvent → Type 0
  HasMade own later = (((state own).step ≡ Finishes) × (begun later ≡ with_finished (begun own))) ⊎ (((state own).step ≡ Ended (Turned true full)) × (begun later ≡ begun own))

  run_by : (event : KeeperEvent) (own : List KeeperEvent) → state (event ∷ own) ≡ keeper_happens shape p (state own) event
  unfolding keeper_run
  run_by event own = refl

  begun_so : (event : KeeperEvent) (own : List KeeperEvent) → begun (event ∷ own) ≡ begun_by (state own) (state own).step event (state (event ∷ own)).step (begun own)
  unfolding commits_begun
  begun_so event own = refl

  still_finishes : (its own : List KeeperEvent) → AreQuiet its → (state (its ++ own)).step ≡ Finishes → ((state own).step ≡ Finishes) × (begun (its ++ own) ≡ begun own)
  still_finishes [] own quiet e = (e, refl)
  still_finishes (event ∷ its) own quiet e =
      let was : (state (its ++ own)).step ≡ Finishes = finishes_before shape p (state (its ++ own)) event quiet.0 (sym (ap (λ (x : KeeperState). x.step) (run_by event (its ++ own))) ∙ e) in
      let rest = still_finishes its own quiet.1 was in (
        rest.0,
        begun_so event (its ++ own)
            ∙ (ap (λ (step : Keeping). begun_by (state (its ++ own)) step event (state (event ∷ its ++ own)).step (begun (its ++ own))) was
            ∙ (ap (λ (after : Keeping). begun_by (state (its ++ own)) Finishes event after (begun (its ++ own))) e
            ∙ rest.1)),
      )

  one_made : (event : KeeperEvent) (own : List KeeperEvent) → (state (event ∷ own)).step ≡ Ended (Turned true full) → HasMade own (event ∷ own)
  one_made event own e = by_calling (is_calling (state own).step event) refl
    where
      by_calling : (calling : Bool) → is_calling (state own).step event ≡ calling → HasMade own (event ∷ own)
      by_calling true calling =
          let finishes : (state own).step ≡ Finishes = (run_number shape p opening own event full opened calling e).finishes in
          inl (
            finishes,
            begun_so event own
                ∙ (ap (λ (step : Keeping). begun_by (state own) step event (state (event ∷ own)).step (begun own)) finishes
                ∙ ap (λ (after : Keeping). begun_by (state own) Finishes event after (begun own)) e),
          )
      by_calling false idles =
          let still : keeper_happens shape p (state own) event ≡ state own = idle_same shape p (state own) (state own).step event refl idles in
          inr (
            sym (ap (λ (x : KeeperState). x.step) (run_by event own ∙ still)) ∙ e,
            begun_so event own ∙ idle_begun (state own) (state own).step event (state (event ∷ own)).step (begun own) idles,
          )

  made_on : (event : KeeperEvent) (its own : List KeeperEvent) → AreQuiet its → HasMade (its ++ own) (event ∷ its ++ own) → ((state (its ++ own)).step ≡ Ended (Turned true full) → HasMade own (its ++ own)) → HasMade own (event ∷ its ++ own)
  made_on event its own quiet (inl made) before = let was = still_finishes its own quiet made.0 in inl (was.0, made.1 ∙ ap with_finished was.1)
  made_on event its own quiet (inr none) before = by_rest (before none.0)
    where
      by_rest : HasMade own (its ++ own) → HasMade own (event ∷ its ++ own)
      by_rest (inl made) = inl (made.0, none.1 ∙ made.1)
      by_rest (inr still) = inr (still.0, none.1 ∙ still.1)

  quiet_made : (its own : List KeeperEvent) → AreQuiet its → (state (its ++ own)).step ≡ Ended (Turned true full) → HasMade own (its ++ own)
  quiet_made [] own quiet e = inr (e, refl)
  quiet_made (event ∷ its) own quiet e = made_on event its own quiet.1 (one_made event (its ++ own) e) (λ was. quiet_made its own quiet.1 was)

  pub part_made : (its own : List KeeperEvent) → IsQuietOrCall its → (state (its ++ own)).step ≡ Ended (Turned true full) → HasMade own (its ++ own)
  part_made its own (inl quiet) e = quiet_made its own quiet e
  part_made its own (inr call) e =
      subst (λ (x : List KeeperEvent). HasMade own (x ++ own)) (sym call.1) (one_made call.0 own (ap (λ (x : List KeeperEvent). (state (x ++ own)).step) (sym call.1) ∙ e))

-- ---- in a life
-- At some moment the newest commit that had begun was sealed and not finished, and now it is finished.
pub record HasFinished (opening : World) (events : List Event) : Type 0 where
  pub later : List Event
  pub before : List Event
  pub so : events ≡ later ++ before
  pub commit : BegunCommit
  pub older : List BegunCommit
  pub begun : life_begun opening before ≡ commit ∷ older
  pub is_sealed : (let c = commit in c.is_sealed ≡ true)
  pub unfinished : (let c = commit in c.is_finished ≡ false)
  pub now : life_begun opening events ≡ record commit { is_finished = true } ∷ older

-- writes rest at no finish, so the keeper has come to it
pub come_to_finish : (opening : World) (events : List Event) → IsOpenedWorld opening → (run opening events).now.keeper.step ≡ Finishes → come_to (run opening events).now.keeper ≡ Finishes
come_to_finish opening events opened finishes = by s.rests refl
  where
    s : KeeperState
    s = (run opening events).now.keeper

    may : s.rests ≡ true → MayRest s.step
    may = subst (λ (x : KeeperState). x.rests ≡ true → MayRest x.step) (sym (keeper_runs opening events))
        (λ rests. (run_rests opening.now.shape opening.now.places opening.now.keeper (keeper_events opening events) opened.keeper rests).rests)

    by : (rests : Bool) → s.rests ≡ rests → (if rests then Writes else s.step) ≡ Finishes
    by true rests = absurd (subst MayRest finishes (may rests))
    by false none = finishes

not_yet : (full : Bool) → Ended (Turned false false) ≡ Ended (Turned true full) → ⊥
not_yet full e = cc

module _ (opening : World) (full : Bool) (opened : IsOpenedWorld opening) (no_call : opening.now.keeper.step ≡ Ended (Turned false false)) where
  abbrev pub keeper_at : List Event → KeeperState
  keeper_at events = (run opening events).now.keeper

  abbrev pub HasMadeHere : Event → List Event → Type 0
  HasMadeHere event before = (((keeper_at before).step ≡ Finishes) × (life_begun opening (event ∷ before) ≡ with_finished (life_begun opening before))) ⊎ (((keeper_at before).step ≡ Ended (Turned true full)) × (life_begun opening (event ∷ before) ≡ life_begun opening before))

  pub life_made : (event : Event) (before : List Event) → (keeper_at (event ∷ before)).step ≡ Ended (Turned true full)
      → HasMadeHere event before
  unfolding keeper_events
  life_made event before e =
      by_made (part_made opening.now.shape opening.now.places opening.now.keeper (commit_opened opening.now opening.past.opened ∷ []) opened.keeper full (keeper_part_of (run opening before) event) (keeper_events opening before)
      (unless_crashed (run opening before).now.crashed _ (part_is (run opening before) event))
      (to_keeper (λ s. s.step ≡ Ended (Turned true full)) opening (event ∷ before) e))
    where
      by_made : HasMade opening.now.shape opening.now.places opening.now.keeper (commit_opened opening.now opening.past.opened ∷ []) opened.keeper full (keeper_events opening before) (keeper_part_of (run opening before) event ++ keeper_events opening before) → HasMadeHere event before
      by_made (inl made) = inl (of_keeper (λ s. s.step ≡ Finishes) opening before made.0, made.1)
      by_made (inr none) = inr (of_keeper (λ s. s.step ≡ Ended (Turned true full)) opening before none.0, none.1)

  finished_now : (event : Event) (before : List Event) → IsInHand (life_begun opening before) (keeper_at before) true → life_begun opening (event ∷ before) ≡ with_finished (life_begun opening before) → HasFinished opening (event ∷ before)
  finished_now event before its made = record {
    later = event ∷ [];
    before = before;
    so = refl;
    commit = its.newest;
    older = its.older;
    begun = its.its;
    is_sealed = its.is_so;
    unfinished = its.unfinished;
    now = made ∙ ap with_finished its.its;
  }

  finished_on : (event : Event) (before : List Event) → HasMadeHere event before → ((keeper_at before).step ≡ Ended (Turned true full) → HasFinished opening before) → HasFinished opening (event ∷ before)
  finished_on event before (inl made) earlier = finished_now event before (subst (λ (step : Keeping). AtKeeping (life_begun opening before) (keeper_at before) step) (come_to_finish opening before opened made.0) (life_stands opening before opened)) made.1
  finished_on event before (inr none) earlier =
      let was = earlier none.0 in
      record {
        later = event ∷ was.later;
        before = was.before;
        so = ap (λ (es : List Event). event ∷ es) was.so;
        commit = was.commit;
        older = was.older;
        begun = was.begun;
        is_sealed = was.is_sealed;
        unfinished = was.unfinished;
        now = none.1 ∙ was.now;
      }

  pub has_finished : (events : List Event) → (keeper_at events).step ≡ Ended (Turned true full) → HasFinished opening events
  unfolding run
  has_finished [] e = absurd (not_yet full (sym no_call ∙ e))
  has_finished (event ∷ before) e = finished_on event before (life_made event before e) (λ was. has_finished before was)
