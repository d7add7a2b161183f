-- Lives of two sessions by wrong tables, in which a clause fails that holds by the right ones. They begin with a store that was just opened.
use Rattle.std.specs.Prelude.{◌≡◌, ℕ, true, false, None, replicate, List, [], ◌∷◌, ◌++◌}
use Rattle.fkv_base.specs.declared.classes.StoreClass.TheVariants.{Specified}
use Rattle.fkv_base.specs.declared.shapes.Shape.{Shape}
use Rattle.fkv_epoch.specs.EpochWorld.{Claimed, drain_word}
use Rattle.fkv_epoch.specs.Once.{Among}
use Rattle.law_order.specs.Below.fkv_flush.GuardLevels.{Levels, levels_of}
use Rattle.law_order.specs.Below.fkv_flush.GuardWorld.{GuardWorld}
use Rattle.law_order.specs.Below.fkv_flush.TheFlushing.TheVariants.{AtRest}
use Rattle.law_order.specs.Below.fkv_maintain.TheMaintaining.TheVariants.{Through}
use Rattle.law_order.specs.Below.fkv_keeper.KeeperTold.TheVariants.{Turned}
use Rattle.law_order.specs.Below.fkv_keeper.TheKeeping.TheVariants as keeping
use Rattle.law_order.specs.Below.fkv_keeper.Keeping.{KeeperState}
use Rattle.law_order.specs.Below.fkv_keeper.NewKeepers.{ArePlacesOfStore}
use Rattle.fkv_map.specs.declared.operations.Call.{Call}
use Rattle.fkv_map.specs.declared.operations.Call.TheVariants as call
use Rattle.fkv_map.specs.declared.operations.Op.{Op}
use Rattle.fkv_map.specs.declared.operations.Op.TheVariants.{Read, Upsert}
use Rattle.fkv_map.specs.History.{IsLegal}
use Rattle.law_log.specs.Trace.{OrdersCalls, ReadsAreFresh, history_of}
use Rattle.law_log.specs.Worked.{adds_5, gives_70, no_map}
use Rattle.fkv_plane.specs.declared.places.Places.{Places}
use Rattle.fkv_sweep.specs.Sweeping.{sweep_begun}
use Rattle.law_order.specs.Below.fkv_session.Kinds.{IsOfKind}
use Rattle.law_order.specs.Below.fkv_session.SessionRun.{Telling}
use Rattle.law_order.specs.Below.fkv_session.Sessions.{SessionState}
use Rattle.law_order.specs.Below.fkv_world.Opened.{IsOpenedWorld, answers_of}
use Rattle.law_order.specs.Below.fkv_world.Runs.{World, run}
use Rattle.law_order.specs.Below.fkv_world.World.{Event, Calls, Moves, Now, Turns, KeeperMoves}
use Rattle.law_order.specs.Below.law_refine.Calls.Calls.{effects_in_log}
use Rattle.law_order.specs.Below.law_world.Guarded.KeptGuarded.{ChangesOpenPlaces, OpensNextPage, WritesOpenPlaces}
use Rattle.law_order.specs.Below.law_world.Guarded.LoadedSince.{HaveLoadedSince}
use Rattle.law_order.specs.Below.law_world.Guarded.Shows as guard
use Rattle.law_order.specs.Below.law_refine.Events.Lines.{lines_of}
use Rattle.law_order.specs.Below.law_refine.Events.Worked.{first_world, gives_8}
use Rattle.law_wrong_runs.specs.Tables.{Tables, action_is_claimed_early, add_copies_in_fuzzy_region, begin_rises, durable_is_refused, effect_is_told_to_nobody, gone_is_absent, guard_run_by, in_place_below_seen_read_only, machine_claims_early, mapped_by, page_opens_unclosed, read_gives_opening_state, run_by, wake_keeps_offsets}

-- ---- what a life leaves
-- its history is legal from an empty map
abbrev pub LeavesLegal : World → Type 0
LeavesLegal w = IsLegal no_map (history_of (effects_in_log w.past.history))

-- and its reads are fresh
abbrev pub LeavesFresh : World → Type 0
LeavesFresh w = ReadsAreFresh no_map (effects_in_log w.past.history) (lines_of (λ session. 0) w.past.trace)

-- and it orders the calls
abbrev pub LeavesOrdered : World → Type 0
LeavesOrdered w = OrdersCalls (effects_in_log w.past.history) (lines_of (λ session. 0) w.past.trace)

-- and what session 1 was told last is of this call's kind
abbrev pub IsNewestOfKind : Call → List Telling → Type 0
IsNewestOfKind its [] = ⊥
IsNewestOfKind its (it ∷ before) = IsOfKind its it.its

abbrev pub LeavesOfKind : Call → World → Type 0
LeavesOfKind its w = IsNewestOfKind its (answers_of 1 w.past.trace)

-- ---- the beginning: a specified store of two sessions that was just opened, whose log begins at 1
-- its keeper has no call, no commit and no part of a turn in hand, and nothing to sweep, and finishes commits for both sessions
abbrev pub idle : Shape → Places → KeeperState → KeeperState
idle shape places k = record k {
  start = record k.start { asked = record k.start.asked { class = Specified } };
  commit = None;
  is_broken = false;
  rests = false;
  last = record k.last { begin = record { 0 = 1 }; checkpoint = record k.last.checkpoint { first = record { 0 = 1 } } };
  sweep = sweep_begun shape places (record { 0 = 1 }) (record { 0 = 1 });
  maintain = record k.maintain { begin = record { 0 = 1 }; flushing = AtRest; step = Through };
  finish = record k.finish { sessions = 2 };
  step = keeping.Ended (Turned false false);
}

abbrev pub opened_world : Shape → Places → KeeperState → SessionState → SessionState → World
opened_world shape places keeper one other = first_world shape places (idle shape places keeper) one other

-- session 0 gives key 5 the value 70, by the record at address 1
abbrev pub gives_events : List Event
gives_events = replicate 8 (Moves 0) ++ Calls 0 (call.Op gives_70) ∷ []

-- two other keys fill the first page of four, and a turn of the keeper shifts the read-only offset to the second
abbrev pub gives_1 : ℕ → Op
gives_1 key = Upsert (record { 0 = key }) (record { 0 = 1 })

abbrev pub filled_events : List Event
filled_events = replicate 10 (Moves 0) ++ Calls 0 (call.Op (gives_1 7)) ∷ (replicate 9 (Moves 0) ++ Calls 0 (call.Op (gives_1 6)) ∷ gives_events)

abbrev pub shifted_events : List Event
shifted_events = replicate 30 (KeeperMoves true true) ++ Turns ∷ filled_events

-- Session 1 sees that, and session 0 does not: the record is in the fuzzy region.
abbrev pub fuzzy_begun : List Event
fuzzy_begun = replicate 5 (Moves 1) ++ Calls 1 call.Refresh ∷ shifted_events

-- Or both see it, and another turn raises the safe read-only offset, flushes the page, and raises the head: that session 1 sees, and session 0 does not.
abbrev pub fixed_begun : List Event
fixed_begun =
    replicate 5 (Moves 1) ++ Calls 1 call.Refresh
    ∷ (replicate 60 (KeeperMoves true true) ++ Turns ∷ (replicate 5 (Moves 1) ++ Calls 1 call.Refresh ∷ (replicate 5 (Moves 0) ++ Calls 0 call.Refresh ∷ shifted_events)))

-- ---- the lives
-- session 0 adds, and has come to the record as session 1 gives the key 8 by a new one
abbrev pub fixed_events : List Event
fixed_events = replicate 2 (Moves 0) ++ (replicate 8 (Moves 1) ++ Calls 1 (call.Op gives_8) ∷ (replicate 3 (Moves 0) ++ Calls 0 (call.Op adds_5) ∷ fixed_begun))

-- session 0 adds, and has loaded the value as session 1 adds too
abbrev pub fuzzy_events : List Event
fuzzy_events = Moves 0 ∷ (replicate 11 (Moves 1) ++ Calls 1 (call.Op adds_5) ∷ (replicate 4 (Moves 0) ++ Calls 0 (call.Op adds_5) ∷ fuzzy_begun))

-- session 1 reads
abbrev pub read_events : List Event
read_events = replicate 4 (Moves 1) ++ Calls 1 (call.Op (Read (record { 0 = 5 }))) ∷ gives_events

-- session 1 asks what is durable
abbrev pub durable_events : List Event
durable_events = Moves 1 ∷ Calls 1 call.Durable ∷ []

-- a turn of the keeper has come to where it opens the third page, for which it has no frame yet
abbrev pub unclosed_begun : List Event
unclosed_begun = replicate 23 (KeeperMoves true true) ++ Turns ∷ filled_events

-- Session 1 sleeps, session 0 sees the shift, and another turn flushes the record. Then session 1 wakes, and has come to the record as it gives the key 8.
abbrev pub slept_events : List Event
slept_events = replicate 60 (KeeperMoves true true) ++ Turns ∷ (replicate 2 (Moves 1) ++ Calls 1 call.Sleep ∷ (replicate 5 (Moves 0) ++ Calls 0 call.Refresh ∷ shifted_events))

abbrev pub woken_begun : List Event
woken_begun = replicate 3 (Moves 1) ++ Calls 1 (call.Op gives_8) ∷ (replicate 5 (Moves 1) ++ Calls 1 call.Wake ∷ slept_events)

-- nobody has seen the shift, and another turn has come to where it claims the action that waits for that
abbrev pub early_begun : List Event
early_begun = replicate 6 (KeeperMoves true true) ++ Turns ∷ shifted_events

-- ---- a read whose record is gone
-- both sessions go by the begin of the log
abbrev pub with_floor : SessionState → SessionState
with_floor s = record s { floor = record { 0 = 1 } }

abbrev pub floored_world : Shape → Places → KeeperState → SessionState → SessionState → World
floored_world shape places keeper one other = opened_world shape places keeper (with_floor one) (with_floor other)

-- Session 1 reads, and waits for the record, which is below the head. Then session 0 gives the key 8 by the record at address 4.
abbrev pub waiting_events : List Event
waiting_events = replicate 14 (Moves 0) ++ Calls 0 (call.Op gives_8) ∷ (replicate 12 (Moves 1) ++ Calls 1 (call.Op (Read (record { 0 = 5 }))) ∷ fixed_begun)

-- A turn of the keeper tells that the record is gone, and session 1 polls twice.
abbrev pub gone_events : List Event
gone_events =
    replicate 12 (Moves 1) ++ Calls 1 call.Poll
    ∷ (replicate 12 (Moves 1) ++ Calls 1 call.Poll ∷ (replicate 80 (KeeperMoves true true) ++ Turns ∷ waiting_events))

-- ---- the guard beside a life
-- it has the life's words
pub record IsBeside (n : Now) (w : GuardWorld) : Type 0 where
  pub shape : w.now.shape ≡ n.shape
  pub places : w.now.places ≡ n.places
  pub words : w.now.words ≡ n.words

-- whatever it has besides, it doesn't keep this of an event
abbrev pub FailsAt : (Now → Now → GuardWorld → Type 0) → Tables → World → List Event → Event → Type 0
FailsAt P t opening before event = (w : GuardWorld) → IsBeside (run_by t opening before).now w → P (run_by t opening before).now (run_by t opening (event ∷ before)).now w → ⊥

-- what it has where actions are claimed early, and that they are claimed in time
abbrev pub guard_of_early : World → List Event → GuardWorld
guard_of_early opening events = guard_run_by machine_claims_early (guard.guard_opening opening.now 1) (mapped_by action_is_claimed_early opening events)

abbrev pub ClaimsInTime : World → List Event → Event → Type 0
ClaimsInTime opening before event = (claim : Claimed) → Among claim (guard_of_early opening (event ∷ before)).past.claims → HaveLoadedSince (guard_of_early opening before) claim.epoch

-- where the offsets stand behind events
abbrev pub levels_after : World → List Event → Levels
levels_after opening events = levels_of (run opening events).now.words

-- In a store of this shape, with its places: as the lives begin the record is fixed and below the head, and in the fuzzy region. Where the record that is fixed is
-- changed in place, the sum that session 0 is told leaves out what session 1 gave; where the record is copied that session 0 may still change, both are told 75; and
-- where a read is told what the store was opened with, it isn't fresh. By the right table the first two leave legal histories. Where an update that has taken
-- effect is told as refused, the history doesn't order the calls. Where a session that asks what is durable is refused behind its ask, its answer isn't of that
-- call's kind; by the right table it is. Where a page is opened without a look at the closed offset, what its frame held isn't flushed.
-- Where a session that wakes keeps its old offsets, it writes a flushed record. Where an action is claimed one epoch early, its epoch was raised after sessions
-- loaded what they go by. Where a read takes a record that is gone for one of its key without a value, it is told that its key is absent, which isn't fresh; by
-- the right table of sessions it finds the newer record.
pub record AreWrongLives (keeper : KeeperState) (one other : SessionState) : Type 0 where
  pub shape : Shape
  pub places : Places
  pub fits : ArePlacesOfStore shape places
  pub opened : IsOpenedWorld (opened_world shape places keeper one other)
  pub guarded : (let w : World = opened_world shape places keeper one other in guard.IsOpened w.now 1)
  pub fixed : levels_after (opened_world shape places keeper one other) fixed_begun ≡ record { closed = 1; head = 4; flushed = 4; safe_read_only = 4; read_only = 4; tail = 4; limit = 8 }
  pub fuzzy : levels_after (opened_world shape places keeper one other) fuzzy_begun ≡ record { closed = 1; head = 1; flushed = 1; safe_read_only = 1; read_only = 4; tail = 4; limit = 8 }
  pub in_place : LeavesLegal (run_by in_place_below_seen_read_only (opened_world shape places keeper one other) fixed_events) → ⊥
  pub in_place_right : LeavesLegal (run (opened_world shape places keeper one other) fixed_events)
  pub copied : LeavesLegal (run_by add_copies_in_fuzzy_region (opened_world shape places keeper one other) fuzzy_events) → ⊥
  pub copied_right : LeavesLegal (run (opened_world shape places keeper one other) fuzzy_events)
  pub stale : LeavesFresh (run_by read_gives_opening_state (opened_world shape places keeper one other) read_events) → ⊥
  pub untold : LeavesOrdered (run_by effect_is_told_to_nobody (opened_world shape places keeper one other) gives_events) → ⊥
  pub refused : LeavesOfKind call.Durable (run_by durable_is_refused (opened_world shape places keeper one other) durable_events) → ⊥
  pub refused_right : LeavesOfKind call.Durable (run (opened_world shape places keeper one other) durable_events)
  pub unclosed : FailsAt OpensNextPage page_opens_unclosed (opened_world shape places keeper one other) unclosed_begun (KeeperMoves true true)
  pub woken : FailsAt (λ n after w. WritesOpenPlaces n (Moves 1) w) wake_keeps_offsets (opened_world shape places keeper one other) woken_begun (Moves 1)
  pub woken_changes : FailsAt ChangesOpenPlaces wake_keeps_offsets (opened_world shape places keeper one other) woken_begun (Moves 1)
  pub gone : LeavesFresh (run_by gone_is_absent (floored_world shape places keeper one other) gone_events) → ⊥
  pub gone_right : LeavesFresh (run_by begin_rises (floored_world shape places keeper one other) gone_events)
  -- the slot's word is its epoch and 2, and 1 once its action is claimed
  pub armed : drain_word (run_by action_is_claimed_early (opened_world shape places keeper one other) early_begun).now.words 0 ≡ 3
  pub claimed : drain_word (run_by action_is_claimed_early (opened_world shape places keeper one other) (KeeperMoves true true ∷ early_begun)).now.words 0 ≡ 1
  pub early : ClaimsInTime (opened_world shape places keeper one other) early_begun (KeeperMoves true true) → ⊥
