-- Every event keeps the world sound.
use Rattle.std.proofs.Common.{subst, ◌≡◌, ℕ, ◌<◌, ◌≤◌, ◌⊎◌, List, [], map, refl, arith, sym, ap, inl, inr, ◌∙◌, Bool, true, false, max}
use Rattle.std.specs.Prelude.{Option, Some, None, slice_get, slice_set, nat_lt, nat_le, not, ◌==◌, ◌&&◌, ◌||◌, if◌then◌else◌}
use Rattle.std.proofs.lemmas.List.{map-set}
use Rattle.std.proofs.lemmas.Bool.Decides.{nat_tests}
use Rattle.fkv_base.specs.declared.shapes.Shape.{Shape}
use Rattle.fkv_plane.specs.declared.actions.Action.{Action}
use Rattle.fkv_plane.specs.declared.actions.Action.TheVariants as act
use Rattle.fkv_plane.specs.Asked.{word_at}
use Rattle.fkv_plane.specs.Places.{record_place, frames_start}
use Rattle.fkv_plane.specs.declared.places.Places.{Places}
use Rattle.fkv_plane.specs.declared.places.RecordWord.TheVariants as rec
use Rattle.fkv_log.specs.declared.reserving.Reserving.TheVariants as reserve
use Rattle.fkv_log.specs.declared.filling.Filling.TheVariants as fill
use Rattle.fkv_log.specs.declared.invalidating.Invalidating.TheVariants as invalidate
use Rattle.fkv_epoch.specs.declared.refreshing.Refreshing.TheVariants as refresh
use Rattle.fkv_epoch.specs.declared.claiming.Claiming.TheVariants as claim
use Rattle.fkv_epoch.specs.declared.raising.Raising.TheVariants as raise
use Rattle.fkv_epoch.specs.declared.arming.Arming.TheVariants as arm
use Rattle.fkv_epoch.specs.Refreshing.{refresh_finish}
use Rattle.fkv_epoch.specs.Raising.{raise_ask}
use Rattle.fkv_epoch.specs.Claiming.{claim_ask, claim_next}
use Rattle.fkv_epoch.specs.Arming.{arm_next}
use Rattle.fkv_epoch.specs.EpochWorld.{EpochMachine, Protects, Refreshes, Leaves, Scans, Claims, Raises, HasRaised, Arms, Sight, OfPhase, OfReadOnly, OfHead, Loads, is_at_rest, may_begin, first_machine, resumed_machine, machine_step, sight_of, past_moved, past_seen, with_machine, epoch_of, own_epoch, is_own, loaded, with_load}
use Rattle.fkv_epoch.specs.EpochWorld as epochs
use Rattle.fkv_epoch.specs.Once.{goes_by}
use Rattle.fkv_epoch.proofs.Shown.{item_written, begun_sound, resumed_sound, seen_sound}
use Rattle.fkv_epoch.proofs.Shown as epochs_sound
use Rattle.fkv_log.specs.declared.shifting.Shifting.{Shifting}
use Rattle.fkv_log.specs.declared.shifting.Shifting.TheVariants as shift
use Rattle.fkv_log.specs.declared.turning.Turning.{Turning}
use Rattle.fkv_log.specs.declared.turning.Turning.TheVariants as turn
use Rattle.fkv_flush.specs.declared.flushing.Flushing.TheVariants as flush
use Rattle.fkv_flush.specs.declared.serving.Serving.TheVariants as serve
use Rattle.fkv_log.specs.Moving.{Mover}
use Rattle.fkv_log.specs.Shifting.{shift_at, shift_begun}
use Rattle.fkv_log.specs.Turning.{turn_at, turn_begun}
use Rattle.fkv_flush.specs.GuardLevels.{Levels, levels_of, Rises}
use Rattle.fkv_flush.specs.GuardSeen.{LastSeen, IsStored}
use Rattle.fkv_flush.specs.GuardWorld.{Actor, Work, Rests, Reserves, Fills, Invalidates, Shifts, Turns, Flushes, Serves, GuardTask, ToDo, ToReserve, ToFill, ToInvalidate, ToShift, ToTurnPage, ToFlush, ToServe, GuardNow, GuardWorld, epoch_now, epoch_world, put_near, with_actor, epoch_step, work_step, moved, machine_moved, drives_epochs, shift_rests, turn_rests, is_idle, is_none, is_awake, may_work, started, begun, resumed, called, called_by, read, read_by, seen_again, seen_with, sight_moved, published, updated, read_only_raised, is_stored, raised_for, raised_with, is_guarded, changed, address_of}
use Rattle.fkv_flush.specs.Guarded.{is_steady, seen_at, seen_of, GoesBy}
use Rattle.fkv_flush.proofs.Guard.{SeesOn, knows_on}
use Rattle.fkv_flush.proofs.GuardEpochs.{runs}
use Rattle.fkv_flush.proofs.GuardSound.{ShiftKnows, TurnKnows, Knows, knows_more, IsSound, Awake, machine_of, machine_at, after, assembled}
use Rattle.fkv_flush.proofs.GuardSteps.{worded, looks, writes_elsewhere, high_elsewhere, IsElsewhere, rises_same, same_machines, goes_with}
use Rattle.fkv_flush.proofs.GuardOffsets.{lifted, lifted_epochs, read_only_written}
use Rattle.fkv_flush.proofs.GuardMachines.{epoch_step_sound, loaded_here, loaded_there, sees_read_only, sees_head}
use Rattle.fkv_flush.proofs.GuardRuns.{ran_sound}
use Rattle.fkv_flush.proofs.GuardPuts.{put_for}
use Rattle.fkv_flush.proofs.GuardMoves.{rest_goes, rest_steady}
use Rattle.fkv_flush.proofs.GuardWorks.{truth, Known, reserve_moves, fill_moves, invalidate_moves, flush_moves, serve_moves, called_sound, read_sound, next_mailbox}
use Rattle.fkv_flush.proofs.GuardShifts as shifts
use Rattle.fkv_flush.proofs.GuardTurns as turns

shift_rest_knows : (l : Levels) (d : EpochMachine) (step : Shifting) (m : Mover) → shift_rests step ≡ true → ShiftKnows l d step m
shift_rest_knows l d shift.AtRest m e = tt
shift_rest_knows l d step m e = cc

turn_rest_knows : (shape : Shape) (l : Levels) (d : EpochMachine) (step : Turning) (m : Mover) → turn_rests step ≡ true → TurnKnows shape l d step m
turn_rest_knows shape l d turn.AtRest m e = tt
turn_rest_knows shape l d step m e = cc

-- a machine that is through knows nothing
pub idle_knows : (w : GuardWorld) (l : Levels) (A : Type 0) (d : EpochMachine) (u : Option ℕ) (work : Work) → is_idle work ≡ true → Knows w.now.shape l A d u work
idle_knows w l A d u Rests e = tt
idle_knows w l A d u (Reserves reserve.AtRest) e = tt
idle_knows w l A d u (Fills fill.AtRest) e = tt
idle_knows w l A d u (Invalidates invalidate.AtRest) e = tt
idle_knows w l A d u (Shifts s) e = shift_rest_knows l d s.step s.mover e
idle_knows w l A d u (Turns s) e = turn_rest_knows w.now.shape l d s.step s.mover e
idle_knows w l A d u (Flushes flush.AtRest bytes) e = tt
idle_knows w l A d u (Serves begin serve.AtRest) e = tt
idle_knows w l A d u work e = cc

-- the machine of the epochs goes on
abbrev pub SoundMachine : GuardWorld → ℕ → Actor → EpochMachine → Type 0
SoundMachine w a x d = IsSound (after w a (record x { machine = (machine_step w.now.places.sessions a w.now.words w.now.actions d).machine; seen = seen_with x.seen (sight_of d) w.now.words })
    (machine_step w.now.places.sessions a w.now.words w.now.actions d).words (machine_step w.now.places.sessions a w.now.words w.now.actions d).actions (past_moved (epoch_now w.now) a w.past (Some d)))

machine_case : (w : GuardWorld) (a : ℕ) (x : Actor) (d : EpochMachine) → IsSound w → slice_get w.now.actors a ≡ Some x → is_idle x.work ≡ true → x.machine ≡ d → SoundMachine w a x x.machine
unfolding claim_ask claim_next
machine_case w a x (Claims (claim.Runs slot c z action)) sound got idle its =
    subst (SoundMachine w a x) (sym its)
    (ran_sound w a x (record x { machine = Claims (claim.FreesSlot slot z) }) slot c z action sound got its refl refl (λ addr u. u)
    (λ l A. idle_knows w l A (Claims (claim.FreesSlot slot z)) x.undecided x.work idle))
machine_case w a x d sound got idle its =
    epoch_step_sound w a x (record x { machine = (machine_step w.now.places.sessions a w.now.words w.now.actions x.machine).machine; seen = seen_with x.seen (sight_of x.machine) w.now.words }) sound got (ap runs its) refl refl (λ addr u. u)
    (λ A. idle_knows w (levels_of w.now.words) A (machine_step w.now.places.sessions a w.now.words w.now.actions x.machine).machine x.undecided x.work idle)

-- the world is sound after one ask of an actor with this work
abbrev SoundMove : GuardWorld → ℕ → Actor → Work → Type 0
SoundMove w a x work = IsSound (record { now = put_near w.now a (if is_idle work then epoch_step w.now a x else work_step w.now a x work); past = if drives_epochs work then past_moved (epoch_now w.now) a w.past (Some x.machine) else w.past })

-- one ask of a shift
shift_moved : (w : GuardWorld) (a : ℕ) (x : Actor) (step : Shifting) (m : Mover) → IsSound w → slice_get w.now.actors a ≡ Some x → x.work ≡ Shifts (shift_at step m) → SoundMove w a x (Shifts (shift_at step m))
shift_moved w a x shift.AtRest m sound got its = machine_case w a x x.machine sound got (ap is_idle its) refl
shift_moved w a x shift.LoadsTail m sound got its = shifts.shift_waits w a x m sound got (subst (Known w a x) its (sound.knows a x got))
shift_moved w a x (shift.LoadsReadOnly tail) m sound got its = let k = subst (Known w a x) its (sound.knows a x got) in shifts.shift_loads w a x tail m sound got k.0 k.1
shift_moved w a x (shift.Moves tail) m sound got its = shifts.move_case w a x tail m.step m.raising m.arming sound got (subst (Known w a x) its (sound.knows a x got))

-- one ask of a turn
turn_moved : (w : GuardWorld) (a : ℕ) (x : Actor) (step : Turning) (m : Mover) → IsSound w → slice_get w.now.actors a ≡ Some x → x.work ≡ Turns (turn_at step m) → SoundMove w a x (Turns (turn_at step m))
turn_moved w a x turn.AtRest m sound got its = machine_case w a x x.machine sound got (ap is_idle its) refl
turn_moved w a x turn.Moves m sound got its = turns.move_case w a x m.step m.raising m.arming sound got (subst (Known w a x) its (sound.knows a x got))
turn_moved w a x step m sound got its = turns.turn_waits w a x step m sound got tt (subst (Known w a x) its (sound.knows a x got))

-- one ask of an actor
moved_by : (w : GuardWorld) (a : ℕ) (x : Actor) (work : Work) → IsSound w → slice_get w.now.actors a ≡ Some x → x.work ≡ work → SoundMove w a x work
moved_by w a x Rests sound got its = machine_case w a x x.machine sound got (ap is_idle its) refl
moved_by w a x (Reserves reserve.AtRest) sound got its = machine_case w a x x.machine sound got (ap is_idle its) refl
moved_by w a x (Reserves step) sound got its = reserve_moves w a x step sound got refl (subst (Known w a x) its (sound.knows a x got))
moved_by w a x (Fills fill.AtRest) sound got its = machine_case w a x x.machine sound got (ap is_idle its) refl
moved_by w a x (Fills step) sound got its = fill_moves w a x step sound got refl (subst (Known w a x) its (sound.knows a x got))
moved_by w a x (Invalidates invalidate.AtRest) sound got its = machine_case w a x x.machine sound got (ap is_idle its) refl
moved_by w a x (Invalidates step) sound got its = invalidate_moves w a x step sound got refl (subst (Known w a x) its (sound.knows a x got))
moved_by w a x (Shifts s) sound got its = shift_moved w a x s.step s.mover sound got its
moved_by w a x (Turns s) sound got its = turn_moved w a x s.step s.mover sound got its
moved_by w a x (Flushes flush.AtRest bytes) sound got its = machine_case w a x x.machine sound got (ap is_idle its) refl
moved_by w a x (Flushes step bytes) sound got its = flush_moves w a x step bytes sound got refl (subst (Known w a x) its (sound.knows a x got))
moved_by w a x (Serves begin serve.AtRest) sound got its = machine_case w a x x.machine sound got (ap is_idle its) refl
moved_by w a x (Serves begin step) sound got its = serve_moves w a x begin step sound got refl (subst (Known w a x) its (sound.knows a x got))

pub moved_sound : (w : GuardWorld) (a : ℕ) (found : Option Actor) → slice_get w.now.actors a ≡ found → IsSound w → IsSound (record { now = moved w.now a found; past = machine_moved w.now a w.past found })
moved_sound w a None got sound = sound
moved_sound w a (Some x) got sound = moved_by w a x x.work sound got refl

pub both : (b c : Bool) → (b && c) ≡ true → (b ≡ true) × (c ≡ true)
both true true e = (refl, refl)
both true false e = cc
both false true e = cc
both false false e = cc

pub neither : (b c : Bool) → (b || c) ≡ false → (b ≡ false) × (c ≡ false)
neither true true e = cc
neither true false e = cc
neither false true e = cc
neither false false e = (refl, refl)

none_is : (u : Option ℕ) → is_none u ≡ true → u ≡ None
none_is None e = refl
none_is (Some addr) e = cc

none_not : {X : Type 0} (u : Option ℕ) (addr : ℕ) → is_none u ≡ true → u ≡ Some addr → X
none_not None addr e f = cc
none_not (Some other) addr e f = cc

some_is : (u : Option ℕ) → not (is_none u) ≡ true → u ≡ Some (address_of u).0
some_is None e = cc
some_is (Some addr) e = refl

pub awake_goes : (w : GuardWorld) (a : ℕ) (x : Actor) → slice_get w.now.actors a ≡ Some x → is_awake w.now a x ≡ true → Awake w.now a x.machine
awake_goes w a x got awake =
    let first = both (nat_lt a w.now.places.sessions && not (own_epoch w.now.words a == 0)) (is_at_rest x.machine) awake in
    let t = both (nat_lt a w.now.places.sessions) (not (own_epoch w.now.words a == 0)) first.0 in
    (record { is_session = grind (arith, nat_tests, t); is_protected = grind (arith, nat_tests, t); machine = x.machine; its_machine = machine_at w.now.actors a x got; has_loaded = rest_goes x.machine OfReadOnly first.1 }, rest_steady x.machine first.1)

-- A session turns to another machine of the epochs, with no undecided record.
turns_to : (w : GuardWorld) (a : ℕ) (x x' : Actor) → IsSound w → slice_get w.now.actors a ≡ Some x
    → epochs_sound.IsSound (epoch_world (after w a x' w.now.words w.now.actions w.past))
    → ((sight : Sight) → goes_by sight x.machine ≡ true) → ((slot c : ℕ) → x'.machine ≡ Arms (arm.StoresEpoch slot c) → ⊥)
    → x'.seen ≡ x.seen → x'.undecided ≡ None → x'.work ≡ Rests
    → IsSound (after w a x' w.now.words w.now.actions w.past)
turns_to w a x x' sound got epochs' goes arms seen undecided work =
    let n : GuardNow = w.now in
    let w' : GuardWorld = after w a x' n.words n.actions w.past in
    let n' : GuardNow = w'.now in
    let l : Levels = levels_of n.words in
    let at_a : slice_get n'.actors a ≡ Some x' = item_written n.actors a x x' got in
    let seen_here : seen_of n'.actors a ≡ seen_of n.actors a = ap seen_at at_a ∙ (seen ∙ sym (ap seen_at got)) in
    let same_read_only = ap (λ (y : LastSeen). y.read_only) seen_here in
    let same_head = ap (λ (y : LastSeen). y.head) seen_here in
    let back : (sight : Sight) → GoesBy n' a sight → GoesBy n a sight = λ sight c.
    record { is_session = c.is_session; is_protected = c.is_protected; machine = x.machine; its_machine = machine_at n.actors a x got; has_loaded = goes sight } in
    assembled w a x x' n.words n.actions w.past sound got refl epochs' (rises_same l l refl) sound.guard.in_order sound.guard.cover
    (λ s h i. refl) (λ s i. refl)
    (record {
      read_only = λ c. inl (back OfReadOnly c, same_read_only, refl);
      head = λ c. inl (back OfHead c, same_head, refl);
      read_only_below = let h = sound.guard.safe.read_only_below a in omega (arith, same_read_only, h);
      head_below = let h = sound.guard.safe.head_below a in omega (arith, same_head, h);
    })
    sound.guard.safe.read_only sound.guard.safe.head (omega arith) (λ y o. inl o) (λ all y o. inl o) (λ b slot c i its. refl)
    (λ all slot c action its home. absurd (arms slot c its))
    (λ addr u. none_not x'.undecided addr (ap is_none undecided) u)
    (λ addr u. none_not x'.undecided addr (ap is_none undecided) u)
    (subst (λ (z : Work). Knows n.shape l (Awake n' a x'.machine) x'.machine x'.undecided z) (sym work) tt)

first_arms : (task : epochs.EpochTask) (slot c : ℕ) → first_machine task ≡ Arms (arm.StoresEpoch slot c) → ⊥
first_arms epochs.ToProtect slot c e = cc
first_arms epochs.ToRefresh slot c e = cc
first_arms epochs.ToLeave slot c e = cc
first_arms epochs.ToScan slot c e = cc
first_arms epochs.ToClaim slot c e = cc
first_arms epochs.ToRaise slot c e = cc

-- the epochs' part of beginning a machine
begins_epochs : (w : GuardWorld) (a : ℕ) (x x' : Actor) (task : epochs.EpochTask) → IsSound w → slice_get w.now.actors a ≡ Some x → is_at_rest x.machine ≡ true → may_begin (epoch_now w.now) a task ≡ true → x'.machine ≡ first_machine task
    → epochs_sound.IsSound (epoch_world (after w a x' w.now.words w.now.actions w.past))
begins_epochs w a x x' task sound got rest may machine =
    let n : GuardNow = w.now in
    let e : epochs.EpochWorld = epoch_world w in
    let swap : map machine_of (slice_set n.actors a x') ≡ slice_set (map machine_of n.actors) a (first_machine task) = map-set machine_of n.actors a x' ∙ ap (slice_set (map machine_of n.actors) a) machine in
    let begun_so : epochs_sound.IsSound (record { now = if is_at_rest x.machine && may_begin e.now a task then with_machine e.now a (first_machine task) else e.now; past = w.past }) = begun_sound e a task (Some x.machine) (machine_at n.actors a x got) sound.epochs in
    rw swap (rw (rest, may) at begun_so)

-- an actor at rest begins a machine
begins : (w : GuardWorld) (a : ℕ) (x : Actor) (task : GuardTask) → IsSound w → slice_get w.now.actors a ≡ Some x → is_at_rest x.machine ≡ true → is_idle x.work ≡ true → may_work w.now a x task ≡ true
    → IsSound (record { now = with_actor w.now a (started w.now x task); past = w.past })
begins w a x (ToDo epochs.ToProtect) sound got rest idle may =
    let t = both (is_none x.undecided) (may_begin (epoch_now w.now) a epochs.ToProtect) may in
    let x' : Actor = record x { machine = first_machine epochs.ToProtect; work = Rests } in
    turns_to w a x x' sound got (begins_epochs w a x x' epochs.ToProtect sound got rest t.1 refl) (λ sight. rest_goes x.machine sight rest) (first_arms epochs.ToProtect) refl (none_is x.undecided t.0) refl
begins w a x (ToDo epochs.ToRefresh) sound got rest idle may =
    let t = both (is_none x.undecided) (may_begin (epoch_now w.now) a epochs.ToRefresh) may in
    let x' : Actor = record x { machine = first_machine epochs.ToRefresh; work = Rests } in
    turns_to w a x x' sound got (begins_epochs w a x x' epochs.ToRefresh sound got rest t.1 refl) (λ sight. rest_goes x.machine sight rest) (first_arms epochs.ToRefresh) refl (none_is x.undecided t.0) refl
begins w a x (ToDo epochs.ToLeave) sound got rest idle may =
    let t = both (is_none x.undecided) (may_begin (epoch_now w.now) a epochs.ToLeave) may in
    let x' : Actor = record x { machine = first_machine epochs.ToLeave; work = Rests } in
    turns_to w a x x' sound got (begins_epochs w a x x' epochs.ToLeave sound got rest t.1 refl) (λ sight. rest_goes x.machine sight rest) (first_arms epochs.ToLeave) refl (none_is x.undecided t.0) refl
begins w a x (ToDo task) sound got rest idle may =
    let x' : Actor = record x { machine = first_machine task; work = Rests } in
    worded w a x x' w.now.words sound got refl (begins_epochs w a x x' task sound got rest may refl) (rises_same (levels_of w.now.words) (levels_of w.now.words) refl) sound.guard.in_order sound.guard.cover (λ s h. refl) sound.guard.safe.read_only sound.guard.safe.head refl
    (λ sight. sym (rest_goes x.machine sight rest)) (sym (rest_steady x.machine rest)) (λ slot c i. absurd (first_arms task slot c i)) refl (λ addr u. inl u) tt
begins w a x (ToReserve bound) sound got rest idle may =
    let t = both (is_none x.undecided) (is_awake w.now a x) may in
    looks w a x (record x { work = Reserves (reserve.LoadsLimit bound) }) sound got refl refl (λ addr u. u) (awake_goes w a x got t.1, none_is x.undecided t.0)
begins w a x (ToFill its_words) sound got rest idle may = looks w a x (record x { work = Fills (fill.StoresValue (address_of x.undecided) its_words) }) sound got refl refl (λ addr u. u) (some_is x.undecided may)
begins w a x (ToInvalidate header) sound got rest idle may = looks w a x (record x { work = Invalidates (invalidate.StoresHeader (address_of x.undecided) header) }) sound got refl refl (λ addr u. u) (some_is x.undecided may)
begins w a x ToShift sound got rest idle may = looks w a x (record x { work = Shifts shift_begun }) sound got refl refl (λ addr u. u) (refl, rest)
begins w a x (ToTurnPage form tail) sound got rest idle may = looks w a x (record x { work = Turns (turn_begun form tail) }) sound got refl refl (λ addr u. u) (refl, rest)
begins w a x ToFlush sound got rest idle may = looks w a x (record x { work = Flushes flush.LoadsFlushed [] }) sound got refl refl (λ addr u. u) tt
begins w a x (ToServe begin) sound got rest idle may = looks w a x (started w.now x (ToServe begin)) sound got refl refl (λ addr u. u) (next_mailbox w a x begin 0)

pub begun_so : (w : GuardWorld) (a : ℕ) (task : GuardTask) (found : Option Actor) → slice_get w.now.actors a ≡ found → IsSound w → IsSound (record { now = begun w.now a task found; past = w.past })
begun_so w a task None got sound = sound
begun_so w a task (Some x) got sound = elim (truth (is_at_rest x.machine && is_idle x.work && may_work w.now a x task)) [
  | inl e ↦
      let t = both (is_at_rest x.machine && is_idle x.work) (may_work w.now a x task) e in
      let u = both (is_at_rest x.machine) (is_idle x.work) t.0 in
      rw e (begins w a x task sound got u.0 u.1 t.1)
  | inr e ↦ rw e sound
]

resumed_goes : (d : EpochMachine) (sight : Sight) → goes_by sight (resumed_machine d) ≡ goes_by sight d
resumed_goes (Refreshes step) sight = refl
resumed_goes (Raises step) sight = refl
resumed_goes d sight = refl

resumed_steady : (d : EpochMachine) → is_steady (resumed_machine d) ≡ is_steady d
unfolding refresh_finish
resumed_steady (Refreshes refresh.AtRest) = refl
resumed_steady (Refreshes (refresh.HasLoaded e v)) = refl
resumed_steady (Refreshes step) = refl
resumed_steady (Raises step) = refl
resumed_steady d = refl

resumed_arms : (d : EpochMachine) (slot c : ℕ) → resumed_machine d ≡ Arms (arm.StoresEpoch slot c) → d ≡ Arms (arm.StoresEpoch slot c)
resumed_arms (Refreshes step) slot c e = cc
resumed_arms (Raises step) slot c e = cc
resumed_arms d slot c e = e

pub resumed_so : (w : GuardWorld) (a : ℕ) (found : Option Actor) → slice_get w.now.actors a ≡ found → IsSound w → IsSound (record { now = resumed w.now a found; past = w.past })
resumed_so w a None got sound = sound
resumed_so w a (Some x) got sound = elim (truth (is_idle x.work)) [
  | inl e ↦
      let n : GuardNow = w.now in
      let x' : Actor = record x { machine = resumed_machine x.machine } in
      let swap : map machine_of (slice_set n.actors a x') ≡ slice_set (map machine_of n.actors) a (resumed_machine x.machine) = map-set machine_of n.actors a x' in
      rw e (worded w a x x' n.words sound got refl (rw swap (resumed_sound (epoch_world w) a (Some x.machine) (machine_at n.actors a x got) sound.epochs)) (rises_same (levels_of n.words) (levels_of n.words) refl) sound.guard.in_order sound.guard.cover (λ s h. refl) sound.guard.safe.read_only sound.guard.safe.head refl
      (resumed_goes x.machine) (resumed_steady x.machine) (resumed_arms x.machine) refl (λ addr u. inl u) (idle_knows w (levels_of n.words) (Awake n a x.machine) (resumed_machine x.machine) x.undecided x.work e))
  | inr e ↦ rw e sound
]

called_case : (w : GuardWorld) (a : ℕ) (done : Bool) (x : Actor) (work : Work) → IsSound w → slice_get w.now.actors a ≡ Some x → x.work ≡ work → IsSound (record { now = called_by w.now a done x work; past = w.past })
called_case w a done x (Flushes step bytes) sound got its = called_sound w a x step bytes done sound got (subst (Known w a x) its (sound.knows a x got))
called_case w a done x work sound got its = sound

pub called_so : (w : GuardWorld) (a : ℕ) (done : Bool) (found : Option Actor) → slice_get w.now.actors a ≡ found → IsSound w → IsSound (record { now = called w.now a done found; past = w.past })
called_so w a done None got sound = sound
called_so w a done (Some x) got sound = called_case w a done x x.work sound got refl

read_case : (w : GuardWorld) (a : ℕ) (bytes : Option (List ℕ)) (x : Actor) (work : Work) → IsSound w → slice_get w.now.actors a ≡ Some x → x.work ≡ work → IsSound (record { now = read_by w.now a bytes x work; past = w.past })
read_case w a None x (Serves begin step) sound got its = looks w a x (record x { work = Serves begin serve.AtRest }) sound got refl refl (λ addr u. u) tt
read_case w a (Some bytes) x (Serves begin step) sound got its = read_sound w a x begin step bytes sound got (subst (Known w a x) its (sound.knows a x got))
read_case w a bytes x work sound got its = sound

pub read_so : (w : GuardWorld) (a : ℕ) (bytes : Option (List ℕ)) (found : Option Actor) → slice_get w.now.actors a ≡ found → IsSound w → IsSound (record { now = read w.now a bytes found; past = w.past })
read_so w a bytes None got sound = sound
read_so w a bytes (Some x) got sound = read_case w a bytes x x.work sound got refl

pub published_so : (w : GuardWorld) (a : ℕ) (found : Option Actor) → slice_get w.now.actors a ≡ found → IsSound w → IsSound (record { now = published w.now a found; past = w.past })
published_so w a None got sound = sound
published_so w a (Some x) got sound = elim (truth (is_idle x.work)) [
  | inl e ↦ rw e (looks w a x (record x { undecided = None }) sound got refl refl (λ addr u. cc) (idle_knows w (levels_of w.now.words) (Awake w.now a x.machine) x.machine None x.work e))
  | inr e ↦ rw e sound
]

pub updated_so : (w : GuardWorld) (a addr word : ℕ) (found : Option Actor) → slice_get w.now.actors a ≡ found → IsSound w → IsSound (record { now = updated w.now a addr word found; past = w.past })
updated_so w a addr word None got sound = sound
updated_so w a addr word (Some x) got sound =
    writes_elsewhere w a x x (record_place w.now.places addr rec.Value) word sound got (high_elsewhere w.now.places.sessions (record_place w.now.places addr rec.Value) (omega arith)) refl refl (λ _ u. u) (sound.knows a x got)

pub read_only_raised_so : (w : GuardWorld) (a to : ℕ) (found : Option Actor) → slice_get w.now.actors a ≡ found → IsSound w → IsSound (record { now = read_only_raised w.now a to found; past = w.past })
read_only_raised_so w a to None got sound = sound
read_only_raised_so w a to (Some x) got sound = elim (truth (nat_le to (word_at w.now.words 3))) [
  | inl e ↦
      let l : Levels = levels_of w.now.words in
      let o = sound.guard.in_order in
      let v : ℕ = max l.read_only to in
      let ahead : to ≤ l.tail = grind (arith, nat_tests, e) in
      let low = o.safe_below in
      let high = o.read_only_below in
      let up : Rises l (record l { read_only = v }) = record { closed = omega arith; head = omega arith; flushed = omega arith; safe_read_only = omega arith; read_only = omega arith; tail = omega arith; limit = omega arith } in
      rw e (lifted w a x x 5 v (record l { read_only = v }) sound got (lifted_epochs w a x x 5 v sound got (omega arith) (omega arith) refl) (omega arith) (omega arith)
      (read_only_written w.now.words v (let h = sound.epochs.enough_words in omega (arith, h))) up
      (record { closed_below = o.closed_below; head_below = o.head_below; flushed_below = o.flushed_below; safe_below = omega (arith, low); read_only_below = omega (arith, high, ahead); tail_below = o.tail_below })
      sound.guard.cover refl refl (λ sight. refl) refl (λ slot c i. i) refl (λ addr u. inl u)
      (knows_more w.now.shape l (record l { read_only = v }) (Awake w.now a x.machine) (Awake w.now a x.machine) x.machine x.undecided x.work up (λ z. z) (sound.knows a x got)))
  | inr e ↦ rw e sound
]

stored_is : (words : List ℕ) (action : Action) → is_stored words action ≡ true → IsStored (levels_of words) action
stored_is words (act.SafeReadOnly addr) e = grind (arith, nat_tests, e)
stored_is words (act.Close addr) e = grind (arith, nat_tests, e)
stored_is words (act.Phase phase version) e = tt

raised_case : (w : GuardWorld) (a : ℕ) (action : Action) (x : Actor) (d : EpochMachine) → IsSound w → slice_get w.now.actors a ≡ Some x → is_idle x.work ≡ true → is_stored w.now.words action ≡ true → x.machine ≡ d → IsSound (record { now = raised_with w.now a action x d; past = w.past })
unfolding raise_ask arm_next
raised_case w a action x (Raises (raise.RaisesEpoch slot)) sound got idle stored its =
    put_for w a x (record x { machine = Arms (arm.StoresEpoch slot (epoch_of w.now.words)) }) slot action sound got its (stored_is w.now.words action stored) refl refl refl
    (λ A. idle_knows w (levels_of w.now.words) A (Arms (arm.StoresEpoch slot (epoch_of w.now.words))) x.undecided x.work idle)
raised_case w a action x d sound got idle stored its = sound

pub raised_so : (w : GuardWorld) (a : ℕ) (action : Action) (found : Option Actor) → slice_get w.now.actors a ≡ found → IsSound w → IsSound (record { now = raised_for w.now a action found; past = w.past })
raised_so w a action None got sound = sound
raised_so w a action (Some x) got sound = elim (truth (is_idle x.work && is_stored w.now.words action)) [
  | inl e ↦ let t = both (is_idle x.work) (is_stored w.now.words action) e in rw e (raised_case w a action x x.machine sound got t.0 t.1 refl)
  | inr e ↦ rw e sound
]

pub guarded_not : (p : Places) (place : ℕ) → is_guarded p place ≡ false → IsElsewhere p.sessions place
guarded_not p place e =
    let t = neither (is_own p.sessions place || (nat_le 3 place && nat_lt place 10)) (nat_le (frames_start p) place) e in
    let u = neither (is_own p.sessions place) (nat_le 3 place && nat_lt place 10) t.0 in
    record { foreign = u.0; no_offset = outside (truth (nat_le 3 place)) u.1 }
  where
    outside : ((nat_le 3 place ≡ true) ⊎ (nat_le 3 place ≡ false)) → (nat_le 3 place && nat_lt place 10) ≡ false → (place < 3) ⊎ (10 ≤ place)
    outside (inr low) f = inl (grind (arith, nat_tests, low))
    outside (inl low) f = let g : nat_lt place 10 ≡ false = rw low at f in inr (grind (arith, nat_tests, g))

pub changed_so : (w : GuardWorld) (a place word : ℕ) (found : Option Actor) → slice_get w.now.actors a ≡ found → IsSound w → IsSound (record { now = changed w.now a place word found; past = w.past })
changed_so w a place word None got sound = sound
changed_so w a place word (Some x) got sound = elim (truth (is_guarded w.now.places place)) [
  | inl e ↦ rw e sound
  | inr e ↦ rw e (writes_elsewhere w a x x place word sound got (guarded_not w.now.places place e) refl refl (λ addr u. u) (sound.knows a x got))
]

-- a session loads a value once more
sees_again : (w : GuardWorld) (a : ℕ) (sight : Sight) (x : Actor) → IsSound w → slice_get w.now.actors a ≡ Some x → x.undecided ≡ None
    → IsSound (record { now = with_actor w.now a (record x { seen = seen_with x.seen (Some sight) w.now.words }); past = past_seen (epoch_now w.now) a sight w.past (Some x.machine) })
sees_again w a sight x sound got undecided =
    let n : GuardNow = w.now in
    let x' : Actor = record x { seen = seen_with x.seen (Some sight) n.words } in
    let past' : epochs.EpochPast = past_seen (epoch_now n) a sight w.past (Some x.machine) in
    let w' : GuardWorld = after w a x' n.words n.actions past' in
    let n' : GuardNow = w'.now in
    let l : Levels = levels_of n.words in
    let at_a : slice_get n'.actors a ≡ Some x' = item_written n.actors a x x' got in
    let seen_before : seen_of n.actors a ≡ x.seen = ap seen_at got in
    let seen_here : seen_of n'.actors a ≡ seen_with x.seen (Some sight) n.words = ap seen_at at_a in
    let loads_here : past'.loads a ≡ with_load (w.past.loads a) (Some sight) (epoch_of n.words) = loaded_here w.past.loads a (Some sight) (epoch_of n.words) in
    let back : (o : Sight) → GoesBy n' a o → GoesBy n a o = λ o c.
    goes_with (epoch_now n') (epoch_now n) a x.machine x.machine o refl (λ h. refl) (machine_at n'.actors a x' at_a) (machine_at n.actors a x got) refl c in
    let forth : (o : Sight) → GoesBy n a o → GoesBy n' a o = λ o c.
    goes_with (epoch_now n) (epoch_now n') a x.machine x.machine o refl (λ h. refl) (machine_at n.actors a x got) (machine_at n'.actors a x' at_a) refl c in
    let read_only_loaded : Some sight ≡ Some OfReadOnly → (seen_of n'.actors a).read_only ≡ l.read_only = λ i.
    ap (λ (y : LastSeen). y.read_only) seen_here ∙ ap (λ (z : Option Sight). (seen_with x.seen z n.words).read_only) i in
    let head_loaded : Some sight ≡ Some OfHead → (seen_of n'.actors a).head ≡ l.head = λ i.
    ap (λ (y : LastSeen). y.head) seen_here ∙ ap (λ (z : Option Sight). (seen_with x.seen z n.words).head) i in
    let on : SeesOn l (GoesBy n) (GoesBy n') (seen_of n.actors) (seen_of n'.actors) w.past.loads past'.loads a = record {
      read_only = λ c. elim (sees_read_only (Some sight)) [
        | inl i ↦ inr (read_only_loaded i)
        | inr still ↦ inl (back OfReadOnly c, ap (λ (y : LastSeen). y.read_only) seen_here ∙ (still.0 x.seen n.words ∙ sym (ap (λ (y : LastSeen). y.read_only) seen_before)), ap (λ (y : Loads). y.read_only) loads_here ∙ still.1 (w.past.loads a) (epoch_of n.words))
      ];
      head = λ c. elim (sees_head (Some sight)) [
        | inl i ↦ inr (head_loaded i)
        | inr still ↦ inl (back OfHead c, ap (λ (y : LastSeen). y.head) seen_here ∙ (still.0 x.seen n.words ∙ sym (ap (λ (y : LastSeen). y.head) seen_before)), ap (λ (y : Loads). y.head) loads_here ∙ still.1 (w.past.loads a) (epoch_of n.words))
      ];
      read_only_below = elim (sees_read_only (Some sight)) [
        | inl i ↦ let h = read_only_loaded i in omega (arith, h)
        | inr still ↦
            let h = ap (λ (y : LastSeen). y.read_only) seen_here ∙ (still.0 x.seen n.words ∙ sym (ap (λ (y : LastSeen). y.read_only) seen_before)) in
            let b = sound.guard.safe.read_only_below a in omega (arith, h, b)
      ];
      head_below = elim (sees_head (Some sight)) [
        | inl i ↦ let h = head_loaded i in omega (arith, h)
        | inr still ↦
            let h = ap (λ (y : LastSeen). y.head) seen_here ∙ (still.0 x.seen n.words ∙ sym (ap (λ (y : LastSeen). y.head) seen_before)) in
            let b = sound.guard.safe.head_below a in omega (arith, h, b)
      ];
    } in
    let up : Rises l l = rises_same l l refl in
    assembled w a x x' n.words n.actions past' sound got refl
    (rw (same_machines n.actors a x x' got refl) (seen_sound (epoch_world w) a sight (Some x.machine) (machine_at n.actors a x got) sound.epochs)) up sound.guard.in_order sound.guard.cover
    (λ s h i. refl) (λ s i. loaded_there w.past.loads a (Some sight) (epoch_of n.words) s i) on sound.guard.safe.read_only sound.guard.safe.head (omega arith) (λ y o. inl o) (λ all y o. inl o) (λ b slot c i its. refl)
    (λ all slot c action its home. knows_on l l (GoesBy n) (GoesBy n') (seen_of n.actors) (seen_of n'.actors) w.past.loads past'.loads c action up all (sound.arming a slot c action (machine_at n.actors a x got ∙ ap Some its) home))
    (λ addr u. none_not x.undecided addr (ap is_none undecided) u)
    (λ addr u. none_not x.undecided addr (ap is_none undecided) u)
    (knows_more n.shape l l (Awake n a x.machine) (Awake n' a x.machine) x.machine x.undecided x.work up (λ k. (forth OfReadOnly k.0, k.1)) (sound.knows a x got))

pub seen_so : (w : GuardWorld) (a : ℕ) (sight : Sight) (found : Option Actor) → slice_get w.now.actors a ≡ found → IsSound w → IsSound (record { now = seen_again w.now a sight found; past = sight_moved w.now a sight w.past found })
seen_so w a sight None got sound = sound
seen_so w a sight (Some x) got sound = elim (truth (is_none x.undecided)) [
  | inl e ↦ rw e (sees_again w a sight x sound got (none_is x.undecided e))
  | inr e ↦ rw e sound
]
