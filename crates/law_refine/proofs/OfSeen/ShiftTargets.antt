-- Each shift in the guard's world moves the read-only offset.
use Rattle.std.proofs.Common.{◌≡◌, ℕ, refl, sym, subst, Bool, true, false, List, [], ◌∷◌}
use Rattle.std.specs.Prelude.{◌&&◌, if◌then◌else◌, ⊤, nat_lt, nat_le, Option, Some, None, slice_get, slice_set}
use Rattle.fkv_base.specs.declared.shapes.Shape.{Shape}
use Rattle.fkv_plane.specs.declared.actions.Action.{Action}
use Rattle.fkv_plane.specs.declared.asks.Ask.{Ask}
use Rattle.fkv_plane.specs.declared.asks.Ask.TheVariants.{Put, Done}
use Rattle.fkv_plane.specs.declared.places.SharedWord.TheVariants as one
use Rattle.fkv_plane.specs.Asked.{reply_to, word_at}
use Rattle.fkv_plane.specs.Places.{shared_place}
use Rattle.fkv_epoch.specs.declared.arming.Arming.{Arming}
use Rattle.fkv_epoch.specs.declared.raising.RaiseAnswer.{RaiseAnswer}
use Rattle.fkv_epoch.specs.declared.raising.RaiseAnswer.TheVariants as raised
use Rattle.fkv_epoch.specs.declared.raising.Raising.{Raising}
use Rattle.fkv_epoch.specs.declared.raising.Raising.TheVariants as raise
use Rattle.fkv_epoch.specs.Arming.{arm_ask, arm_next}
use Rattle.fkv_epoch.specs.EpochWorld as epochs
use Rattle.fkv_epoch.specs.EpochWorld.{EpochMachine, is_at_rest}
use Rattle.fkv_epoch.specs.Raising.{raise_ask, raise_next, raise_next_ask, raise_on}
use Rattle.law_world.specs.Below.fkv_flush.GuardWorld as guard
use Rattle.law_world.specs.Below.fkv_flush.GuardWorld.{Actor, GuardEvent, GuardNow, GuardTask, GuardWorld, Work, Reserves, Fills, Invalidates, Shifts, Turns, Flushes, Serves, Rests, ToDo, ToReserve, ToFill, ToInvalidate, ToShift, ToTurnPage, ToFlush, ToServe, actor_step, after_put, begun, called, called_by, changed, epoch_step, guard_happens, guard_happens_now, guard_run, is_guarded, is_idle, is_none, is_stored, may_work, moved, published, raised_for, raised_with, read, read_by, read_only_raised, resumed, seen_again, started, updated, work_step}
use Rattle.law_world.specs.Below.fkv_log.MoveAnswer.{MoveAnswer}
use Rattle.law_world.specs.Below.fkv_log.Moving.{Mover, move_begun, move_next, move_next_ask, moving_next, raise_led, arm_led}
use Rattle.law_world.specs.Below.fkv_log.Offset.TheVariants.{ReadOnly}
use Rattle.law_world.specs.Below.fkv_log.Shifting.{ShiftState, mutable_start, shift_ask, shift_at, shift_led, shift_next, shifting_next}
use Rattle.law_world.specs.Below.fkv_log.Target.{Target}
use Rattle.law_world.specs.Below.fkv_log.TheMoving.{Moving}
use Rattle.law_world.specs.Below.fkv_log.TheMoving.TheVariants as move
use Rattle.law_world.specs.Below.fkv_log.TheShifting.{Shifting}
use Rattle.law_world.specs.Below.fkv_log.TheShifting.TheVariants as shift
use Rattle.law_refine.proofs.Items.{Here, There, set_at}

-- ---- in the tables of the shift
abbrev pub TargetsReadOnly : Moving → Type 0
TargetsReadOnly (move.Raises target) = target.offset ≡ ReadOnly
TargetsReadOnly (move.MovesOffset target) = target.offset ≡ ReadOnly
TargetsReadOnly (move.Puts target slot) = target.offset ≡ ReadOnly
TargetsReadOnly step = ⊤

abbrev pub ShiftsReadOnly : Shifting → Mover → Type 0
ShiftsReadOnly (shift.Moves tail) m = TargetsReadOnly m.step
ShiftsReadOnly step m = ⊤

raised_targets : (target : Target) (raising : Raising) (arming : Arming) (ask : Ask RaiseAnswer) → target.offset ≡ ReadOnly → TargetsReadOnly (raise_led target raising arming ask).step
unfolding raise_led
raised_targets target raising arming (Done (raised.HasSlot slot)) its = its
raised_targets target raising arming (Done raised.NoSlot) its = tt
raised_targets target raising arming (Done raised.Spent) its = tt
raised_targets target raising arming (Done (raised.Raised slot epoch)) its = its
raised_targets target raising arming ask its = its

armed_targets : (raising : Raising) (arming : Arming) (ask : Ask (Unit {0})) → TargetsReadOnly (arm_led raising arming ask).step
unfolding arm_led
armed_targets raising arming (Done its) = tt
armed_targets raising arming ask = tt

move_targets : (step : Moving) (raising : Raising) (arming : Arming) (reply : ℕ) → TargetsReadOnly step → TargetsReadOnly (moving_next step raising arming reply).step
unfolding moving_next
move_targets move.AtRest raising arming reply its = tt
move_targets (move.Raises target) raising arming reply its = raised_targets target (raise_next raising reply) arming (raise_next_ask raising reply) its
move_targets (move.MovesOffset target) raising arming reply its = raised_targets target (raise_on raising) arming (raise_ask (raise_on raising)) its
move_targets (move.Puts target slot) raising arming reply its = armed_targets raising (arm_next arming) (arm_ask (arm_next arming))
move_targets move.Arms raising arming reply its = armed_targets raising (arm_next arming) (arm_ask (arm_next arming))

led_targets : (tail : ℕ) (m : Mover) (ask : Ask MoveAnswer) → TargetsReadOnly m.step → ShiftsReadOnly (shift_led tail m ask).step (shift_led tail m ask).mover
unfolding shift_led
led_targets tail m (Done its) targets = tt
led_targets tail m ask targets = targets

shift_targets : (shape : Shape) (step : Shifting) (m : Mover) (reply : ℕ) → ShiftsReadOnly step m → ShiftsReadOnly (shifting_next shape step m reply).step (shifting_next shape step m reply).mover
unfolding shifting_next
shift_targets shape shift.AtRest m reply its = tt
shift_targets shape shift.LoadsTail m reply its = tt
shift_targets shape (shift.LoadsReadOnly tail) m reply its = by_test (nat_lt reply (mutable_start shape.page shape.mutable tail))
  where
    by_test : (c : Bool) → (let next : ShiftState = if c then shift_at (shift.Moves tail) (move_begun ReadOnly (mutable_start shape.page shape.mutable tail)) else shift_at shift.AtRest m in ShiftsReadOnly next.step next.mover)
    by_test true = refl
    by_test false = tt
shift_targets shape (shift.Moves tail) m reply its = led_targets tail (move_next m reply) (move_next_ask m reply) (move_targets m.step m.raising m.arming reply its)

-- ---- so it is with each actor
abbrev pub WorkReadOnly : Work → Type 0
WorkReadOnly (Shifts s) = ShiftsReadOnly s.step s.mover
WorkReadOnly work = ⊤

abbrev pub AllReadOnly : GuardNow → Type 0
AllReadOnly n = (i : ℕ) (x : Actor) → slice_get n.actors i ≡ Some x → WorkReadOnly x.work

-- where one of them comes to another work
set_read_only : (actors : List Actor) (i : ℕ) (y : Actor) → WorkReadOnly y.work → ((j : ℕ) (x : Actor) → slice_get actors j ≡ Some x → WorkReadOnly x.work) → (j : ℕ) (x : Actor) → slice_get (slice_set actors i y) j ≡ Some x → WorkReadOnly x.work
set_read_only actors i y its all j x got = elim (set_at actors i j y x got) [
  | Here at same ↦ subst (λ (z : Actor). WorkReadOnly z.work) (sym same) its
  | There other there ↦ all j x there
]

either_now : (c : Bool) (a b : GuardNow) → AllReadOnly a → AllReadOnly b → AllReadOnly (if c then a else b)
either_now true a b one other = one
either_now false a b one other = other

put_targets : {A : Type 0} (shape : Shape) (ask : Ask A) (there : ShiftState) → ShiftsReadOnly there.step there.mover
    → ShiftsReadOnly (after_put ask there (shift_next shape there 0)).step (after_put ask there (shift_next shape there 0)).mover
put_targets shape (Put slot action) there its = shift_targets shape there.step there.mover 0 its
put_targets shape ask there its = its

work_targets : (n : GuardNow) (i : ℕ) (x : Actor) (work : Work) → WorkReadOnly x.work → WorkReadOnly work → WorkReadOnly (work_step n i x work).actor.work
work_targets n i x Rests had its = had
work_targets n i x (Reserves step) had its = tt
work_targets n i x (Fills step) had its = tt
work_targets n i x (Invalidates step) had its = tt
work_targets n i x (Shifts s) had its =
    put_targets n.shape (shift_ask (shift_next n.shape s (reply_to n.words (shift_ask s)))) (shift_next n.shape s (reply_to n.words (shift_ask s))) (shift_targets n.shape s.step s.mover (reply_to n.words (shift_ask s)) its)
work_targets n i x (Turns s) had its = tt
work_targets n i x (Flushes step bytes) had its = tt
work_targets n i x (Serves begin step) had its = tt

step_targets : (n : GuardNow) (i : ℕ) (x : Actor) → WorkReadOnly x.work → WorkReadOnly (actor_step n i x).actor.work
step_targets n i x its = by_test (is_idle x.work)
  where
    by_test : (c : Bool) → WorkReadOnly (if c then epoch_step n i x else work_step n i x x.work).actor.work
    by_test true = its
    by_test false = work_targets n i x x.work its its

started_targets : (n : GuardNow) (x : Actor) (task : GuardTask) → WorkReadOnly (started n x task).work
started_targets n x (ToDo task) = tt
started_targets n x (ToReserve bound) = tt
started_targets n x (ToFill its_words) = tt
started_targets n x (ToInvalidate header) = tt
started_targets n x ToShift = tt
started_targets n x (ToTurnPage form tail) = tt
started_targets n x ToFlush = tt
started_targets n x (ToServe begin) = tt

-- ---- and stays so with each event
module _ (n : GuardNow) (all : AllReadOnly n) where
  begun_targets : (i : ℕ) (task : GuardTask) (found : Option Actor) → AllReadOnly (begun n i task found)
  begun_targets i task None = all
  begun_targets i task (Some x) = either_now (is_at_rest x.machine && is_idle x.work && may_work n i x task) _ n (set_read_only n.actors i (started n x task) (started_targets n x task) all) all

  resumed_targets : (i : ℕ) (found : Option Actor) → slice_get n.actors i ≡ found → AllReadOnly (resumed n i found)
  resumed_targets i None got = all
  resumed_targets i (Some x) got = either_now (is_idle x.work) _ n (set_read_only n.actors i _ (all i x got) all) all

  moved_targets : (i : ℕ) (found : Option Actor) → slice_get n.actors i ≡ found → AllReadOnly (moved n i found)
  moved_targets i None got = all
  moved_targets i (Some x) got = set_read_only n.actors i (actor_step n i x).actor (step_targets n i x (all i x got)) all

  called_targets : (i : ℕ) (done : Bool) (x : Actor) (work : Work) → AllReadOnly (called_by n i done x work)
  called_targets i done x (Flushes step bytes) = set_read_only n.actors i _ tt all
  called_targets i done x work = all

  all_called : (i : ℕ) (done : Bool) (found : Option Actor) → AllReadOnly (called n i done found)
  all_called i done None = all
  all_called i done (Some x) = called_targets i done x x.work

  read_targets : (i : ℕ) (bytes : Option (List ℕ)) (x : Actor) (work : Work) → AllReadOnly (read_by n i bytes x work)
  read_targets i bytes x (Serves begin step) = set_read_only n.actors i _ tt all
  read_targets i bytes x work = all

  all_read : (i : ℕ) (bytes : Option (List ℕ)) (found : Option Actor) → AllReadOnly (read n i bytes found)
  all_read i bytes None = all
  all_read i bytes (Some x) = read_targets i bytes x x.work

  seen_targets : (i : ℕ) (sight : epochs.Sight) (found : Option Actor) → slice_get n.actors i ≡ found → AllReadOnly (seen_again n i sight found)
  seen_targets i sight None got = all
  seen_targets i sight (Some x) got = either_now (is_none x.undecided) _ n (set_read_only n.actors i _ (all i x got) all) all

  published_targets : (i : ℕ) (found : Option Actor) → slice_get n.actors i ≡ found → AllReadOnly (published n i found)
  published_targets i None got = all
  published_targets i (Some x) got = either_now (is_idle x.work) _ n (set_read_only n.actors i _ (all i x got) all) all

  updated_targets : (i addr word : ℕ) (found : Option Actor) → slice_get n.actors i ≡ found → AllReadOnly (updated n i addr word found)
  updated_targets i addr word None got = all
  updated_targets i addr word (Some x) got = set_read_only n.actors i x (all i x got) all

  raised_only_targets : (i to : ℕ) (found : Option Actor) → slice_get n.actors i ≡ found → AllReadOnly (read_only_raised n i to found)
  raised_only_targets i to None got = all
  raised_only_targets i to (Some x) got = either_now (nat_le to (word_at n.words (shared_place one.Tail))) _ n (set_read_only n.actors i x (all i x got) all) all

  raised_with_targets : (i : ℕ) (action : Action) (x : Actor) (machine : EpochMachine) → WorkReadOnly x.work → AllReadOnly (raised_with n i action x machine)
  raised_with_targets i action x (epochs.Raises (raise.RaisesEpoch slot)) its = set_read_only n.actors i _ its all
  raised_with_targets i action x machine its = all

  raised_for_targets : (i : ℕ) (action : Action) (found : Option Actor) → slice_get n.actors i ≡ found → AllReadOnly (raised_for n i action found)
  raised_for_targets i action None got = all
  raised_for_targets i action (Some x) got = either_now (is_idle x.work && is_stored n.words action) _ n (raised_with_targets i action x x.machine (all i x got)) all

  changed_targets : (i place word : ℕ) (found : Option Actor) → slice_get n.actors i ≡ found → AllReadOnly (changed n i place word found)
  changed_targets i place word None got = all
  changed_targets i place word (Some x) got = either_now (is_guarded n.places place) n _ all (set_read_only n.actors i x (all i x got) all)

  event_targets : (event : GuardEvent) → AllReadOnly (guard_happens_now n event)
  event_targets (guard.Begins i task) = begun_targets i task (slice_get n.actors i)
  event_targets (guard.Resumes i) = resumed_targets i (slice_get n.actors i) refl
  event_targets (guard.Moves i) = moved_targets i (slice_get n.actors i) refl
  event_targets (guard.Calls i done) = all_called i done (slice_get n.actors i)
  event_targets (guard.Reads i bytes) = all_read i bytes (slice_get n.actors i)
  event_targets (guard.Sees i sight) = seen_targets i sight (slice_get n.actors i) refl
  event_targets (guard.Publishes i) = published_targets i (slice_get n.actors i) refl
  event_targets (guard.Updates i addr word) = updated_targets i addr word (slice_get n.actors i) refl
  event_targets (guard.RaisesReadOnly i to) = raised_only_targets i to (slice_get n.actors i) refl
  event_targets (guard.RaisesFor i action) = raised_for_targets i action (slice_get n.actors i) refl
  event_targets (guard.Changes i place word) = changed_targets i place word (slice_get n.actors i) refl
  event_targets (guard.CallsElse call) = all

pub run_targets : (opening : GuardWorld) (events : List GuardEvent) → AllReadOnly opening.now → AllReadOnly (guard_run opening events).now
unfolding guard_run guard_happens
run_targets opening [] all = all
run_targets opening (event ∷ before) all = event_targets (guard_run opening before).now (run_targets opening before all) event
