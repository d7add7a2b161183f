-- The safe read-only offset is raised by the action alone that says so.
use Rattle.std.proofs.Common.{◌≡◌, ◌≢◌, ℕ, ◌⊎◌, List, refl, ap, arith, inl, inr, ◌∙◌, true, false, max}
use Rattle.std.specs.Prelude.{Option, Some, None, ⊤, slice_get, slice_set, if◌then◌else◌}
use Rattle.fkv_plane.specs.declared.actions.Action.TheVariants as act
use Rattle.fkv_base.specs.declared.numbers.Addr.{Addr}
use Rattle.fkv_plane.specs.Asked.{word_at}
use Rattle.fkv_log.specs.declared.reserving.Reserving.TheVariants as reserve
use Rattle.fkv_log.specs.declared.filling.Filling.TheVariants as fill
use Rattle.fkv_log.specs.declared.invalidating.Invalidating.TheVariants as invalidate
use Rattle.fkv_log.specs.Reserving.{reserve_ask}
use Rattle.fkv_log.specs.Filling.{fill_ask}
use Rattle.fkv_log.specs.Invalidating.{invalidate_ask}
use Rattle.fkv_epoch.specs.declared.claiming.Claiming.TheVariants as claim
use Rattle.fkv_epoch.specs.declared.protecting.Protecting.TheVariants as protect
use Rattle.fkv_epoch.specs.declared.refreshing.Refreshing.TheVariants as refresh
use Rattle.fkv_epoch.specs.declared.leaving.Leaving.TheVariants as leave
use Rattle.fkv_epoch.specs.declared.scanning.Scanning.TheVariants as scan
use Rattle.fkv_epoch.specs.declared.raising.Raising.{Raising}
use Rattle.fkv_epoch.specs.declared.raising.Raising.TheVariants as raise
use Rattle.fkv_epoch.specs.declared.arming.Arming.{Arming}
use Rattle.fkv_epoch.specs.declared.arming.Arming.TheVariants as arm
use Rattle.fkv_epoch.specs.Protecting.{protect_ask}
use Rattle.fkv_epoch.specs.Refreshing.{refresh_ask}
use Rattle.fkv_epoch.specs.Leaving.{leave_ask}
use Rattle.fkv_epoch.specs.Scanning.{scan_ask}
use Rattle.fkv_epoch.specs.Claiming.{claim_ask, claim_next}
use Rattle.fkv_epoch.specs.Raising.{raise_ask}
use Rattle.fkv_epoch.specs.Arming.{arm_ask}
use Rattle.fkv_epoch.specs.EpochWorld.{EpochMachine, Protects, Refreshes, Leaves, Scans, Claims, Raises, Arms, machine_step}
use Rattle.fkv_epoch.proofs.Shown.{word_written}
use Rattle.fkv_log.specs.declared.moving.Offset.{Offset}
use Rattle.fkv_log.specs.declared.moving.Offset.TheVariants.{ReadOnly, Head}
use Rattle.fkv_log.specs.declared.moving.Moving.{Moving}
use Rattle.fkv_log.specs.declared.moving.Moving.TheVariants as move
use Rattle.fkv_log.specs.declared.shifting.Shifting.{Shifting}
use Rattle.fkv_log.specs.declared.shifting.Shifting.TheVariants as shift
use Rattle.fkv_log.specs.declared.turning.Turning.{Turning}
use Rattle.fkv_log.specs.declared.turning.Turning.TheVariants as turn
use Rattle.fkv_log.specs.Moving.{Mover, offset_place, move_ask, moving_ask}
use Rattle.fkv_log.specs.Shifting.{shifting_ask}
use Rattle.fkv_log.specs.Turning.{turning_ask}
use Rattle.fkv_flush.specs.declared.flushing.Flushing.TheVariants as flush
use Rattle.fkv_flush.specs.declared.serving.Serving.TheVariants as serve
use Rattle.fkv_flush.specs.Flushing.{flush_ask}
use Rattle.fkv_flush.specs.Serving.{serve_ask}
use Rattle.fkv_flush.specs.GuardAsks.{writes, machine_writes}
use Rattle.fkv_flush.specs.GuardLevels.{levels_of}
use Rattle.fkv_flush.specs.GuardWorld.{Actor, Work, Rests, Reserves, Fills, Invalidates, Shifts, Turns, Flushes, Serves, GuardNow, GuardWorld, GuardEvent, Moves, Updates, RaisesReadOnly, RaisesFor, Changes, put_near, epoch_step, is_idle, is_guarded, guard_happens}
use Rattle.fkv_flush.specs.Guarded.{work_writes, update_writes}
use Rattle.fkv_flush.proofs.GuardEpochs.{Spares}
use Rattle.fkv_flush.proofs.GuardSound.{IsSound}
use Rattle.fkv_flush.proofs.GuardWorks.{truth}
use Rattle.fkv_flush.proofs.GuardHappens.{guarded_not}
use Rattle.fkv_flush.proofs.GuardUnwritten.{unwritten}
use Rattle.fkv_flush.proofs.GuardWrites.{writes_passed}
use Rattle.fkv_flush.proofs.Follows.{moves_machine}

-- the machine is about to run an action that raises it to this address
abbrev RunsTo : EpochMachine → Type 0
RunsTo (Claims (claim.Runs slot c safe (act.SafeReadOnly addr))) = ⊤
RunsTo machine = ⊥

abbrev SparesSafe : Option ℕ → Type 0
SparesSafe at = Spares at 6

machine_spares : (a : ℕ) (d : EpochMachine) → SparesSafe (machine_writes a d) ⊎ RunsTo d
unfolding protect_ask refresh_ask leave_ask scan_ask claim_ask raise_ask arm_ask
machine_spares a (Protects (protect.StoresEpoch epoch)) = inl (λ e. omega (arith, e))
machine_spares a (Refreshes (refresh.StoresEpoch epoch)) = inl (λ e. omega (arith, e))
machine_spares a (Leaves leave.StoresZero) = inl (λ e. omega (arith, e))
machine_spares a (Scans (scan.RaisesSafe least)) = inl (λ e. omega (arith, e))
machine_spares a (Claims (claim.TakesSlot slot word safe)) = inl (λ e. omega (arith, e))
machine_spares a (Claims (claim.Runs slot epoch safe (act.SafeReadOnly addr))) = inr tt
machine_spares a (Claims (claim.Runs slot epoch safe (act.Close addr))) = inl (λ e. omega (arith, e))
machine_spares a (Claims (claim.Runs slot epoch safe (act.Phase phase version))) = inl (λ e. omega (arith, e))
machine_spares a (Claims (claim.FreesSlot slot safe)) = inl (λ e. omega (arith, e))
machine_spares a (Raises (raise.HoldsSlot slot)) = inl (λ e. omega (arith, e))
machine_spares a (Raises (raise.RaisesEpoch slot)) = inl (λ e. omega (arith, e))
machine_spares a (Arms (arm.StoresEpoch slot epoch)) = inl (λ e. omega (arith, e))
machine_spares a d = inl tt

raise_spares : (step : Raising) → SparesSafe (writes (raise_ask step))
unfolding raise_ask
raise_spares (raise.HoldsSlot slot) = λ e. omega (arith, e)
raise_spares (raise.RaisesEpoch slot) = λ e. omega (arith, e)
raise_spares step = tt

arm_spares : (step : Arming) → SparesSafe (writes (arm_ask step))
unfolding arm_ask
arm_spares (arm.StoresEpoch slot epoch) = λ e. omega (arith, e)
arm_spares step = tt

offset_spares : (offset : Offset) → 6 ≢ offset_place offset
offset_spares ReadOnly e = omega (arith, e)
offset_spares Head e = omega (arith, e)

move_spares : (step : Moving) (raising : Raising) (arming : Arming) → SparesSafe (writes (moving_ask step raising arming))
unfolding moving_ask
move_spares move.AtRest raising arming = tt
move_spares (move.Raises target) raising arming = rw (writes_passed (raise_ask raising) _) (raise_spares raising)
move_spares (move.MovesOffset target) raising arming = offset_spares target.offset
move_spares (move.Puts target slot) raising arming = tt
move_spares move.Arms raising arming = rw (writes_passed (arm_ask arming) _) (arm_spares arming)

shift_spares : (step : Shifting) (m : Mover) → SparesSafe (writes (shifting_ask step m))
unfolding shifting_ask
shift_spares (shift.Moves tail) m = rw (writes_passed (move_ask m) _) (move_spares m.step m.raising m.arming)
shift_spares step m = tt

turn_spares : (n : GuardNow) (step : Turning) (m : Mover) → SparesSafe (writes (turning_ask n.shape step m))
unfolding turning_ask
turn_spares n (turn.RaisesLimit limit) m = λ e. omega (arith, e)
turn_spares n turn.Moves m = rw (writes_passed (move_ask m) _) (move_spares m.step m.raising m.arming)
turn_spares n step m = tt

work_spares : (n : GuardNow) (a : ℕ) (x : Actor) (work : Work) → is_idle work ≡ false → SparesSafe (work_writes n a x work)
unfolding reserve_ask fill_ask invalidate_ask flush_ask serve_ask
work_spares n a x Rests busy = cc
work_spares n a x (Reserves (reserve.TakesTail tail)) busy = λ e. omega (arith, e)
work_spares n a x (Fills (fill.StoresValue addr its_words)) busy = λ e. omega (arith, e)
work_spares n a x (Fills (fill.StoresKey addr its_words)) busy = λ e. omega (arith, e)
work_spares n a x (Fills (fill.StoresHeader addr its_words)) busy = λ e. omega (arith, e)
work_spares n a x (Invalidates (invalidate.StoresHeader addr header)) busy = λ e. omega (arith, e)
work_spares n a x (Shifts s) busy = shift_spares s.step s.mover
work_spares n a x (Turns s) busy = turn_spares n s.step s.mover
work_spares n a x (Flushes (flush.RaisesFlushed end) bytes) busy = λ e. omega (arith, e)
work_spares n a x (Serves begin (serve.StoresHeader session mail)) busy = λ e. omega (arith, e)
work_spares n a x (Serves begin (serve.StoresKey session mail)) busy = λ e. omega (arith, e)
work_spares n a x (Serves begin (serve.StoresValue session mail)) busy = λ e. omega (arith, e)
work_spares n a x (Serves begin (serve.StoresReady session)) busy = λ e. omega (arith, e)
work_spares n a x work busy = tt

-- the step that runs that action
pub record RaisesSafe (w : GuardWorld) (event : GuardEvent) : Type 0 where
  pub actor : ℕ
  pub x : Actor
  pub slot : ℕ
  pub c : ℕ
  pub safe : ℕ
  pub addr : Addr
  pub its_actor : slice_get w.now.actors actor ≡ Some x
  pub its_machine : x.machine ≡ Claims (claim.Runs slot c safe (act.SafeReadOnly addr))
  pub raised : (levels_of (guard_happens w event).now.words).safe_read_only ≡ max (levels_of w.now.words).safe_read_only addr.0

-- no other event changes it
abbrev pub Stays : GuardWorld → GuardEvent → Type 0
Stays w event = ((levels_of (guard_happens w event).now.words).safe_read_only ≡ (levels_of w.now.words).safe_read_only) ⊎ RaisesSafe w event

runs_by : (w : GuardWorld) (a : ℕ) (x : Actor) (d : EpochMachine) → IsSound w → slice_get w.now.actors a ≡ Some x → is_idle x.work ≡ true → x.machine ≡ d → RunsTo d → RaisesSafe w (Moves a)
unfolding guard_happens claim_ask claim_next
runs_by w a x (Claims (claim.Runs slot c safe (act.SafeReadOnly addr))) sound got idle its k =
    let enough = sound.epochs.enough_words in
    let led : (guard_happens w (Moves a)).now ≡ put_near w.now a (epoch_step w.now a x) = moves_machine w.now a x got idle in
    let ran : (epoch_step w.now a x).words ≡ slice_set w.now.words 6 (max (word_at w.now.words 6) addr.0) = ap (λ (d : EpochMachine). (machine_step w.now.places.sessions a w.now.words w.now.actions d).words) its in
    record {
      actor = a;
      x = x;
      slot = slot;
      c = c;
      safe = safe;
      addr = addr;
      its_actor = got;
      its_machine = its;
      raised = ap (λ (n : GuardNow). word_at n.words 6) led ∙ (ap (λ (all : List ℕ). word_at all 6) ran ∙ word_written w.now.words 6 (max (word_at w.now.words 6) addr.0) (omega (arith, enough)));
    }
runs_by w a x d sound got idle its k = absurd k

moves_by : (w : GuardWorld) (a : ℕ) (found : Option Actor) → IsSound w → slice_get w.now.actors a ≡ found → Stays w (Moves a)
moves_by w a None sound got = inl (unwritten w (Moves a) 6 (rw got tt))
moves_by w a (Some x) sound got = elim (truth (is_idle x.work)) [
  | inl e ↦ elim (machine_spares a x.machine) [
    | inl spares ↦ inl (unwritten w (Moves a) 6 (rw (got, e) spares))
    | inr k ↦ inr (runs_by w a x x.machine sound got e refl k)
  ]
  | inr e ↦ inl (unwritten w (Moves a) 6 (rw (got, e) (work_spares w.now a x x.work e)))
]

update_spares : (n : GuardNow) (a addr : ℕ) (found : Option Actor) → SparesSafe (update_writes n a addr found)
update_spares n a addr None = tt
update_spares n a addr (Some x) = λ i. omega (arith, i)

change_spares : (n : GuardNow) (place : ℕ) → SparesSafe (if is_guarded n.places place then None else Some place)
change_spares n place = elim (truth (is_guarded n.places place)) [
  | inl e ↦ rw e tt
  | inr e ↦ rw e (λ i. elim (guarded_not n.places place e).no_offset [ inl low ↦ omega (arith, low, i) | inr high ↦ omega (arith, high, i) ])
]

pub safe_stays : (w : GuardWorld) (event : GuardEvent) → IsSound w → Stays w event
safe_stays w (Moves a) sound = moves_by w a (slice_get w.now.actors a) sound refl
safe_stays w (Updates a addr word) sound = inl (unwritten w (Updates a addr word) 6 (update_spares w.now a addr (slice_get w.now.actors a)))
safe_stays w (RaisesReadOnly a to) sound = inl (unwritten w (RaisesReadOnly a to) 6 (λ e. omega (arith, e)))
safe_stays w (RaisesFor a action) sound = inl (unwritten w (RaisesFor a action) 6 (λ e. omega (arith, e)))
safe_stays w (Changes a place word) sound = inl (unwritten w (Changes a place word) 6 (change_spares w.now place))
safe_stays w event sound = inl (unwritten w event 6 tt)
