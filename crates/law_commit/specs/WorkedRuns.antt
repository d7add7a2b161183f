-- Runs whose past is worked out: raises of a keeper, and a life of two sessions.
use Rattle.std.specs.Prelude.{◌≡◌, true, false, replicate, List, [], ◌∷◌, ◌++◌, Some, None}
use Rattle.fkv_base.specs.declared.classes.StoreClass.TheVariants.{Specified}
use Rattle.fkv_base.specs.declared.phases.Phase.TheVariants.{Rest, Prepare, WaitPending}
use Rattle.fkv_base.specs.declared.shapes.Shape.{Shape}
use Rattle.fkv_map.specs.declared.operations.Call.TheVariants as call
use Rattle.fkv_map.specs.declared.operations.Op.TheVariants.{Upsert, Add}
use Rattle.fkv_plane.specs.declared.places.Places.{Places}
use Rattle.fkv_plane.specs.declared.places.SharedWord.TheVariants as word
use Rattle.fkv_plane.specs.Asked.{word_at}
use Rattle.fkv_plane.specs.Places.{shared_place}
use Rattle.fkv_epoch.specs.declared.arming.Arming.TheVariants as arm
use Rattle.fkv_epoch.specs.declared.raising.Raising.TheVariants as raise
use Rattle.fkv_base.specs.declared.commits.CommitKind.TheVariants.{Full}
use Rattle.fkv_sweep.specs.Sweeping.{sweep_begun}
use Rattle.law_refine.specs.Below.fkv_commit.Deferred.{Deferred}
use Rattle.law_refine.specs.Below.fkv_commit.Deferred.TheVariants.{EntersPhase, ShowsReadOnly}
use Rattle.law_refine.specs.Below.fkv_commit.TheDeferring.TheVariants.{Raises as RaisesFor}
use Rattle.law_refine.specs.Below.fkv_commit.TheEntering.TheVariants as entering
use Rattle.law_refine.specs.Below.fkv_commit.TheSeeking.TheVariants as seeking
use Rattle.law_refine.specs.Below.fkv_commit.Deferring.{DeferState}
use Rattle.law_refine.specs.Below.fkv_flush.TheFlushing.TheVariants.{AtRest}
use Rattle.law_refine.specs.Below.fkv_maintain.TheMaintaining.TheVariants.{Through}
use Rattle.law_refine.specs.Below.fkv_keeper.KeeperTold.TheVariants.{Turned}
use Rattle.law_refine.specs.Below.fkv_keeper.TheKeeping.TheVariants.{Ended, Enters, Seeks}
use Rattle.law_refine.specs.Below.fkv_keeper.Keeping.{KeeperState}
use Rattle.law_refine.specs.Below.fkv_keeper.KeeperRun.{KeeperEvent, BeginsCommit, Replies}
use Rattle.law_refine.specs.Below.fkv_session.Sessions.{SessionState}
use Rattle.law_refine.specs.Below.fkv_world.Opened.{IsOpenedWorld}
use Rattle.law_refine.specs.Below.fkv_world.Runs.{World, run}
use Rattle.law_refine.specs.Below.fkv_world.World.{Event, Calls, Moves, Commits, KeeperMoves}
use Rattle.law_commit.specs.Accepted.{versions_accepted}
use Rattle.law_commit.specs.LastSerials.{serial_at}
use Rattle.law_commit.specs.PrefixPast.{prefix_past}
use Rattle.law_commit.specs.Raises.{life_raises, no_raises, raises}
use Rattle.law_commit.specs.Views.{View, sight_of}
use Rattle.law_refine.specs.Events.Worked.{first_world}

-- The keeper of a specified store as that was opened begins a commit. The phase is rest in version 1, the epoch is 7, slot 0 is free, prepare is stored over the phase, and
-- the tail is 5. Then the epoch is raised, from 9 by now.
abbrev pub resting_keeper : KeeperState → KeeperState
resting_keeper s = record s {
  start = record s.start { asked = record s.start.asked { class = Specified } };
  commit = None;
  is_broken = false;
  rests = false;
  lost = [];
  maintain = record s.maintain { begin = s.last.begin; flushing = AtRest; step = Through };
  sweep = sweep_begun s.sweep.shape s.sweep.places s.last.begin s.last.begin;
  step = Ended (Turned false false);
}

abbrev pub events_before_raise : List KeeperEvent
events_before_raise = Replies 5 true ∷ Replies 1 true ∷ Replies 0 true ∷ Replies 0 true ∷ Replies 7 true ∷ Replies 1 true ∷ BeginsCommit Full ∷ []

abbrev pub events_to_raise : List KeeperEvent
events_to_raise = Replies 9 true ∷ events_before_raise

-- the action is put into its slot, and the slot is armed
abbrev pub events_to_begin : List KeeperEvent
events_to_begin = Replies 0 true ∷ Replies 0 true ∷ events_to_raise

-- where a keeper raises the epoch for this, in slot 0
abbrev pub raising_for : Deferred → DeferState
raising_for its = record { raising = raise.RaisesEpoch 0; arming = arm.AtRest; step = RaisesFor its }

abbrev pub entering_keeper : KeeperState → KeeperState
entering_keeper s = record s { enter = record s.enter { defer = raising_for (EntersPhase WaitPending (record { 0 = 2 })); step = entering.Defers }; step = Enters }

abbrev pub seeking_keeper : KeeperState → KeeperState
seeking_keeper s = record s { seek = record s.seek { defer = raising_for (ShowsReadOnly (record { 0 = 40 })); step = seeking.Defers (record { 0 = 40 }) }; step = Seeks }

-- A raise is known by its reply, which is the epoch before it, and stays known.
pub record RaisesOfRuns : Type 0 where
  pub before : (shape : Shape) (p : Places) (s : KeeperState) → raises shape p (resting_keeper s) events_before_raise ≡ no_raises
  pub first : (shape : Shape) (p : Places) (s : KeeperState) → raises shape p (resting_keeper s) events_to_raise ≡ record { in_progress = Some 9; wait_pending = None; read_only = None }
  pub stays : (shape : Shape) (p : Places) (s : KeeperState) → raises shape p (resting_keeper s) events_to_begin ≡ record { in_progress = Some 9; wait_pending = None; read_only = None }
  pub second : (shape : Shape) (p : Places) (s : KeeperState) → raises shape p (entering_keeper s) (Replies 12 true ∷ []) ≡ record { in_progress = None; wait_pending = Some 12; read_only = None }
  pub third : (shape : Shape) (p : Places) (s : KeeperState) → raises shape p (seeking_keeper s) (Replies 15 true ∷ []) ≡ record { in_progress = None; wait_pending = None; read_only = Some 15 }

-- The store for two sessions of `first_world`, whose keeper rests.
abbrev pub worked_world : Shape → Places → KeeperState → SessionState → SessionState → World
worked_world shape places keeper one other = first_world shape places (resting_keeper keeper) one other

-- Session 0 refreshes.
abbrev pub events_refreshed : List Event
events_refreshed = replicate 5 (Moves 0) ++ (Calls 0 call.Refresh ∷ [])

-- Session 1 gives key 5 a value by a new record, which moves the tail. A commit begins, which stores prepare and raises the epoch. Session 1 adds to the
-- value. Session 0 refreshes once more, and has loaded the phase.
abbrev pub events_loaded : List Event
events_loaded =
    replicate 2 (Moves 0) ++ (Calls 0 call.Refresh ∷ replicate 5 (Moves 1) ++ (Calls 1 (call.Op (Add (record { 0 = 5 }) 5))
    ∷ replicate 8 (KeeperMoves true true) ++ (Commits Full ∷ replicate 8 (Moves 1) ++ (Calls 1 (call.Op (Upsert (record { 0 = 5 }) (record { 0 = 70 }))) ∷ events_refreshed))))

-- Session 1 gives key 6 a value, which moves the tail, and then session 0 has all.
abbrev pub events_caught_up : List Event
events_caught_up = replicate 3 (Moves 0) ++ (replicate 10 (Moves 1) ++ (Calls 1 (call.Op (Upsert (record { 0 = 6 }) (record { 0 = 80 }))) ∷ events_loaded))

abbrev pub first_view : View
first_view = record { stamp = 1; phase = Rest; version = record { 0 = 1 }; tail = 1 }

abbrev pub second_view : View
second_view = record { stamp = 2; phase = Prepare; version = record { 0 = 1 }; tail = 2 }

-- Such a store was opened. A refresh shows the epoch, the phase and the tail as they stood where it loaded the phase, and no later ones. Until the
-- second refresh has all, the first one's view is what session 0 goes by. What session 1 had accepted as the commit was asked for is one update, though it accepts another one behind
-- it. The commit has raised the epoch once, from 1.
pub record IsWorkedPast (keeper : KeeperState) (one other : SessionState) : Type 0 where
  pub shape : Shape
  pub places : Places
  pub opened : IsOpenedWorld (worked_world shape places keeper one other)
  pub refreshed : sight_of (worked_world shape places keeper one other) events_refreshed 0 ≡ record { view = first_view; coming = None }
  pub loaded : sight_of (worked_world shape places keeper one other) events_loaded 0 ≡ record { view = first_view; coming = Some second_view }
  pub caught_up : sight_of (worked_world shape places keeper one other) events_caught_up 0 ≡ record { view = second_view; coming = None }
  pub tail : word_at (run (worked_world shape places keeper one other) events_caught_up).now.words (shared_place word.Tail) ≡ 3
  pub asked : (prefix_past (worked_world shape places keeper one other) events_loaded).asked 1 ≡ 1
  pub serial : serial_at (run (worked_world shape places keeper one other) events_loaded).now 1 ≡ 2
  pub versions : versions_accepted (worked_world shape places keeper one other) events_loaded 1 ≡ 1 ∷ 1 ∷ []
  pub raised : life_raises (worked_world shape places keeper one other) events_loaded ≡ record { in_progress = Some 1; wait_pending = None; read_only = None }
