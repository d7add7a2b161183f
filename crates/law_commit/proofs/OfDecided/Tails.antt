-- In the guard's world the tail is raised by the Cas alone that takes an address.
use Rattle.std.proofs.Common.{◌≡◌, ◌≢◌, ℕ, ◌+◌, ◌<◌, ◌⊎◌, List, [], ◌∷◌, refl, ap, sym, subst, arith, inl, inr, ◌∙◌, Bool, true, false}
use Rattle.std.specs.Prelude.{Option, Some, None, ◌==◌, ◌&&◌, ◌||◌, nat_le, nat_lt, slice_get, if◌then◌else◌, length}
use Rattle.std.proofs.lemmas.Bool.Decides.{nat_tests}
use Rattle.fkv_plane.specs.declared.actions.Action.TheVariants as act
use Rattle.fkv_plane.specs.declared.places.Places.{Places}
use Rattle.fkv_plane.specs.Asked.{word_at, words_after}
use Rattle.fkv_plane.specs.Places.{frames_start}
use Rattle.law_refine.specs.Below.fkv_log.TheReserving.TheVariants as reserve
use Rattle.law_refine.specs.Below.fkv_log.TheFilling.TheVariants as fill
use Rattle.law_refine.specs.Below.fkv_log.TheInvalidating.TheVariants as invalidate
use Rattle.law_refine.specs.Below.fkv_log.Reserving.{reserve_ask}
use Rattle.law_refine.specs.Below.fkv_log.Filling.{fill_ask}
use Rattle.law_refine.specs.Below.fkv_log.Invalidating.{invalidate_ask}
use Rattle.fkv_epoch.specs.declared.claiming.Claiming.TheVariants as claim
use Rattle.fkv_epoch.specs.declared.protecting.Protecting.TheVariants as protect
use Rattle.fkv_epoch.specs.declared.refreshing.Refreshing.TheVariants as refresh
use Rattle.fkv_epoch.specs.declared.leaving.Leaving.TheVariants as leave
use Rattle.fkv_epoch.specs.declared.scanning.Scanning.TheVariants as scan
use Rattle.fkv_epoch.specs.declared.raising.Raising.{Raising}
use Rattle.fkv_epoch.specs.declared.raising.Raising.TheVariants as raise
use Rattle.fkv_epoch.specs.declared.arming.Arming.{Arming}
use Rattle.fkv_epoch.specs.declared.arming.Arming.TheVariants as arm
use Rattle.fkv_epoch.specs.Protecting.{protect_ask}
use Rattle.fkv_epoch.specs.Refreshing.{refresh_ask}
use Rattle.fkv_epoch.specs.Leaving.{leave_ask}
use Rattle.fkv_epoch.specs.Scanning.{scan_ask}
use Rattle.fkv_epoch.specs.Claiming.{claim_ask}
use Rattle.fkv_epoch.specs.Raising.{raise_ask}
use Rattle.fkv_epoch.specs.Arming.{arm_ask}
use Rattle.fkv_epoch.specs.EpochWorld.{EpochMachine, Protects, Refreshes, Leaves, Scans, Claims, Raises, Arms, is_own}
use Rattle.fkv_epoch.proofs.Shown.{word_written}
use Rattle.law_refine.specs.Below.fkv_log.Offset.{Offset}
use Rattle.law_refine.specs.Below.fkv_log.Offset.TheVariants.{ReadOnly, Head}
use Rattle.law_refine.specs.Below.fkv_log.TheMoving.{Moving}
use Rattle.law_refine.specs.Below.fkv_log.TheMoving.TheVariants as move
use Rattle.law_refine.specs.Below.fkv_log.TheShifting.{Shifting}
use Rattle.law_refine.specs.Below.fkv_log.TheShifting.TheVariants as shift
use Rattle.law_refine.specs.Below.fkv_log.TheTurning.{Turning}
use Rattle.law_refine.specs.Below.fkv_log.TheTurning.TheVariants as turn
use Rattle.law_refine.specs.Below.fkv_log.Moving.{Mover, offset_place, move_ask, moving_ask}
use Rattle.law_refine.specs.Below.fkv_log.Shifting.{shifting_ask}
use Rattle.law_refine.specs.Below.fkv_log.Turning.{turning_ask}
use Rattle.law_refine.specs.Below.fkv_flush.TheFlushing.TheVariants as flush
use Rattle.law_refine.specs.Below.fkv_flush.TheServing.TheVariants as serve
use Rattle.law_refine.specs.Below.fkv_flush.Flushing.{flush_ask}
use Rattle.law_refine.specs.Below.fkv_flush.Serving.{serve_ask}
use Rattle.law_refine.specs.Below.fkv_flush.GuardAsks.{writes, machine_writes}
use Rattle.law_refine.specs.Below.fkv_flush.GuardLevels.{levels_of}
use Rattle.law_refine.specs.Below.fkv_flush.GuardWorld.{Actor, Work, Rests, Reserves, Fills, Invalidates, Shifts, Turns, Flushes, Serves, GuardNow, GuardWorld, GuardEvent, Begins, Resumes, Moves, Publishes, Updates, RaisesReadOnly, RaisesFor, Changes, is_idle, is_guarded, put_near, work_step, guard_happens, guard_run}
use Rattle.law_refine.specs.Below.fkv_flush.Guarded.{work_writes, update_writes}
use Rattle.law_refine.proofs.Below.fkv_flush.Shown.{Spares, unwritten, writes_passed, moves_work}
use Rattle.law_refine.proofs.Below.law_world.OfGuarded.OneStep.{IsOwn, IsQuiet, IsStep}

-- ---- which asks write the tail's word
abbrev SparesTail : Option ℕ → Type 0
SparesTail at = Spares at 3

machine_spares : (a : ℕ) (d : EpochMachine) → SparesTail (machine_writes a d)
unfolding protect_ask refresh_ask leave_ask scan_ask claim_ask raise_ask arm_ask
machine_spares a (Protects (protect.StoresEpoch epoch)) = λ e. omega (arith, e)
machine_spares a (Refreshes (refresh.StoresEpoch epoch)) = λ e. omega (arith, e)
machine_spares a (Leaves leave.StoresZero) = λ e. omega (arith, e)
machine_spares a (Scans (scan.RaisesSafe least)) = λ e. omega (arith, e)
machine_spares a (Claims (claim.TakesSlot slot word safe)) = λ e. omega (arith, e)
machine_spares a (Claims (claim.Runs slot epoch safe (act.SafeReadOnly addr))) = λ e. omega (arith, e)
machine_spares a (Claims (claim.Runs slot epoch safe (act.Close addr))) = λ e. omega (arith, e)
machine_spares a (Claims (claim.Runs slot epoch safe (act.Phase phase version))) = λ e. omega (arith, e)
machine_spares a (Claims (claim.FreesSlot slot safe)) = λ e. omega (arith, e)
machine_spares a (Raises (raise.HoldsSlot slot)) = λ e. omega (arith, e)
machine_spares a (Raises (raise.RaisesEpoch slot)) = λ e. omega (arith, e)
machine_spares a (Arms (arm.StoresEpoch slot epoch)) = λ e. omega (arith, e)
machine_spares a d = tt

raise_spares : (step : Raising) → SparesTail (writes (raise_ask step))
unfolding raise_ask
raise_spares (raise.HoldsSlot slot) = λ e. omega (arith, e)
raise_spares (raise.RaisesEpoch slot) = λ e. omega (arith, e)
raise_spares step = tt

arm_spares : (step : Arming) → SparesTail (writes (arm_ask step))
unfolding arm_ask
arm_spares (arm.StoresEpoch slot epoch) = λ e. omega (arith, e)
arm_spares step = tt

offset_spares : (offset : Offset) → 3 ≢ offset_place offset
offset_spares ReadOnly e = omega (arith, e)
offset_spares Head e = omega (arith, e)

move_spares : (step : Moving) (raising : Raising) (arming : Arming) → SparesTail (writes (moving_ask step raising arming))
unfolding moving_ask
move_spares move.AtRest raising arming = tt
move_spares (move.Raises target) raising arming = rw (writes_passed (raise_ask raising) _) (raise_spares raising)
move_spares (move.MovesOffset target) raising arming = offset_spares target.offset
move_spares (move.Puts target slot) raising arming = tt
move_spares move.Arms raising arming = rw (writes_passed (arm_ask arming) _) (arm_spares arming)

shift_spares : (step : Shifting) (m : Mover) → SparesTail (writes (shifting_ask step m))
unfolding shifting_ask
shift_spares (shift.Moves tail) m = rw (writes_passed (move_ask m) _) (move_spares m.step m.raising m.arming)
shift_spares step m = tt

turn_spares : (n : GuardNow) (step : Turning) (m : Mover) → SparesTail (writes (turning_ask n.shape step m))
unfolding turning_ask
turn_spares n (turn.RaisesLimit limit) m = λ e. omega (arith, e)
turn_spares n turn.Moves m = rw (writes_passed (move_ask m) _) (move_spares m.step m.raising m.arming)
turn_spares n step m = tt

-- the work is the Cas that takes this address
record IsTaking (work : Work) : Type 0 where
  tail : ℕ
  is : work ≡ Reserves (reserve.TakesTail tail)

work_spares : (n : GuardNow) (a : ℕ) (x : Actor) (work : Work) → is_idle work ≡ false → SparesTail (work_writes n a x work) ⊎ IsTaking work
unfolding reserve_ask fill_ask invalidate_ask flush_ask serve_ask
work_spares n a x Rests busy = cc
work_spares n a x (Reserves (reserve.TakesTail tail)) busy = inr (record { tail = tail; is = refl })
work_spares n a x (Fills (fill.StoresValue addr its_words)) busy = inl (λ e. omega (arith, e))
work_spares n a x (Fills (fill.StoresKey addr its_words)) busy = inl (λ e. omega (arith, e))
work_spares n a x (Fills (fill.StoresHeader addr its_words)) busy = inl (λ e. omega (arith, e))
work_spares n a x (Invalidates (invalidate.StoresHeader addr header)) busy = inl (λ e. omega (arith, e))
work_spares n a x (Shifts s) busy = inl (shift_spares s.step s.mover)
work_spares n a x (Turns s) busy = inl (turn_spares n s.step s.mover)
work_spares n a x (Flushes (flush.RaisesFlushed end) bytes) busy = inl (λ e. omega (arith, e))
work_spares n a x (Serves begin (serve.StoresHeader session mail)) busy = inl (λ e. omega (arith, e))
work_spares n a x (Serves begin (serve.StoresKey session mail)) busy = inl (λ e. omega (arith, e))
work_spares n a x (Serves begin (serve.StoresValue session mail)) busy = inl (λ e. omega (arith, e))
work_spares n a x (Serves begin (serve.StoresReady session)) busy = inl (λ e. omega (arith, e))
work_spares n a x work busy = inl tt

-- ---- one event
abbrev tail_of : GuardWorld → ℕ
tail_of w = (levels_of w.now.words).tail

-- an actor takes the tail as its address, and raises it by one
pub record TakesTail (w v : GuardWorld) (actor : ℕ) : Type 0 where
  pub x : Actor
  pub got : slice_get w.now.actors actor ≡ Some x
  pub its_work : x.work ≡ Reserves (reserve.TakesTail ((levels_of w.now.words).tail))
  pub raised : (levels_of v.now.words).tail ≡ (levels_of w.now.words).tail + 1

-- or the tail stays
abbrev pub TailOn : GuardWorld → GuardWorld → ℕ → Type 0
TailOn w v actor = ((levels_of v.now.words).tail ≡ (levels_of w.now.words).tail) ⊎ TakesTail w v actor

by_truth : (b : Bool) → (b ≡ true) ⊎ (b ≡ false)
by_truth true = inl refl
by_truth false = inr refl

cas_writes : (words : List ℕ) (tail : ℕ) → 3 < length words → word_at (words_after words (reserve_ask (reserve.TakesTail tail))) 3 ≡ (if word_at words 3 == tail then tail + 1 else word_at words 3)
unfolding reserve_ask
cas_writes words tail enough = word_written words 3 _ enough

takes_by : (w : GuardWorld) (a : ℕ) (x : Actor) (tail : ℕ) → 3 < length w.now.words → slice_get w.now.actors a ≡ Some x → x.work ≡ Reserves (reserve.TakesTail tail) → TailOn w (guard_happens w (Moves a)) a
unfolding guard_happens
takes_by w a x tail enough got its =
    let led : (guard_happens w (Moves a)).now ≡ put_near w.now a (work_step w.now a x (Reserves (reserve.TakesTail tail))) = moves_work w.now a x got (Reserves (reserve.TakesTail tail)) its refl in
    let wrote : tail_of (guard_happens w (Moves a)) ≡ (if tail_of w == tail then tail + 1 else tail_of w) = ap (λ (n : GuardNow). word_at n.words 3) led ∙ cas_writes w.now.words tail enough in
    elim (by_truth (tail_of w == tail)) [
      | inl won ↦
          let same : tail_of w ≡ tail = grind (arith, nat_tests, won) in
          inr (record { x = x; got = got; its_work = its ∙ ap (λ (t : ℕ). Reserves (reserve.TakesTail t)) (sym same); raised = wrote ∙ (rw won (ap (λ (t : ℕ). t + 1) (sym same))) })
      | inr lost ↦ inl (wrote ∙ rw lost refl)
    ]

moves_by : (w : GuardWorld) (a : ℕ) (found : Option Actor) → 3 < length w.now.words → slice_get w.now.actors a ≡ found → TailOn w (guard_happens w (Moves a)) a
moves_by w a None enough got = inl (unwritten w (Moves a) 3 (rw got tt))
moves_by w a (Some x) enough got = elim (by_truth (is_idle x.work)) [
  | inl e ↦ inl (unwritten w (Moves a) 3 (rw (got, e) (machine_spares a x.machine)))
  | inr e ↦ elim (work_spares w.now a x x.work e) [
    | inl spares ↦ inl (unwritten w (Moves a) 3 (rw (got, e) spares))
    | inr its ↦ takes_by w a x its.tail enough got its.is
  ]
]

update_spares : (n : GuardNow) (a addr : ℕ) (found : Option Actor) → SparesTail (update_writes n a addr found)
update_spares n a addr None = tt
update_spares n a addr (Some x) = λ i. omega (arith, i)

tail_guarded : (p : Places) → is_guarded p 3 ≡ true
tail_guarded p = by_own (is_own p.sessions 3)
  where
    by_own : (b : Bool) → (b || (nat_le 3 3 && nat_lt 3 10) || nat_le (frames_start p) 3) ≡ true
    by_own true = refl
    by_own false = refl

change_spares : (n : GuardNow) (place : ℕ) → SparesTail (if is_guarded n.places place then None else Some place)
change_spares n place = elim (by_truth (is_guarded n.places place)) [
  | inl e ↦ rw e tt
  | inr e ↦ rw e (λ i. let both : true ≡ false = sym (tail_guarded n.places) ∙ (ap (is_guarded n.places) i ∙ e) in cc)
]

moved_own : (a b : ℕ) → IsOwn a (Moves b) → a ≡ b
moved_own a b own = elim (by_truth (a == b)) [
  | inl e ↦ grind (arith, nat_tests, e)
  | inr e ↦ absurd (own b (λ (clash : a ≡ b). absurd (grind (arith, nat_tests, e, clash))) refl)
]

-- an event of this actor
tail_on : (w : GuardWorld) (event : GuardEvent) (a : ℕ) → 3 < length w.now.words → IsOwn a event → TailOn w (guard_happens w event) a
tail_on w (Moves b) a enough own = subst (λ (c : ℕ). TailOn w (guard_happens w (Moves c)) a) (moved_own a b own) (moves_by w a (slice_get w.now.actors a) enough refl)
tail_on w (Updates b addr word) a enough own = inl (unwritten w (Updates b addr word) 3 (update_spares w.now b addr (slice_get w.now.actors b)))
tail_on w (RaisesReadOnly b to) a enough own = inl (unwritten w (RaisesReadOnly b to) 3 (λ e. omega (arith, e)))
tail_on w (RaisesFor b action) a enough own = inl (unwritten w (RaisesFor b action) 3 (λ e. omega (arith, e)))
tail_on w (Changes b place word) a enough own = inl (unwritten w (Changes b place word) 3 (change_spares w.now place))
tail_on w event a enough own = inl (unwritten w event 3 tt)

quiet_tail : (w : GuardWorld) (event : GuardEvent) → IsQuiet event → (levels_of (guard_happens w event).now.words).tail ≡ (levels_of w.now.words).tail
quiet_tail w (Begins a task) quiet = unwritten w (Begins a task) 3 tt
quiet_tail w (Resumes a) quiet = unwritten w (Resumes a) 3 tt
quiet_tail w (Publishes a) quiet = unwritten w (Publishes a) 3 tt
quiet_tail w event quiet = absurd quiet

tail_behind : (w v u : GuardWorld) (a : ℕ) → (levels_of u.now.words).tail ≡ (levels_of v.now.words).tail → TailOn w v a → TailOn w u a
tail_behind w v u a same (inl stays) = inl (same ∙ stays)
tail_behind w v u a same (inr takes) = inr (record { x = takes.x; got = takes.got; its_work = takes.its_work; raised = same ∙ takes.raised })

-- and one step of it
pub step_tail : (keeper a : ℕ) (w : GuardWorld) (events : List GuardEvent) → 3 < length w.now.words → IsStep keeper a events → TailOn w (guard_run w events) a
unfolding guard_run
step_tail keeper a w [] enough step = inl refl
step_tail keeper a w (event ∷ before) enough step = elim step.0.place [
  | inl quiet ↦ tail_behind w (guard_run w before) (guard_happens (guard_run w before) event) a (quiet_tail (guard_run w before) event quiet) (step_tail keeper a w before enough step.1)
  | inr first ↦ subst (λ (b : List GuardEvent). TailOn w (guard_happens (guard_run w b) event) a) (sym first.0) (tail_on w event a enough first.1)
]
