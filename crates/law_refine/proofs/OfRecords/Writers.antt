-- Which events of the guard write a word of a frame: those of a machine that fills or invalidates a record, and changes in place.
use Rattle.std.proofs.Common.{◌≡◌, ℕ, ◌+◌, ◌*◌, ◌<◌, ◌≤◌, ◌∙◌, refl, sym, ap, subst, arith, Bool, true, false}
use Rattle.std.specs.Prelude.{Option, Some, None, ⊤, slice_get, nat_lt, nat_le, ◌&&◌, ◌||◌, if◌then◌else◌}
use Rattle.std.proofs.lemmas.Bool.Decides.{nat_tests}
use Rattle.fkv_base.specs.Limits.{drain_slots}
use Rattle.fkv_plane.specs.declared.actions.Action.{Action}
use Rattle.fkv_plane.specs.declared.actions.Action.TheVariants as act
use Rattle.fkv_plane.specs.declared.places.SessionWord.TheVariants as own
use Rattle.fkv_plane.specs.Places.{frames_start, session_place}
use Rattle.fkv_epoch.specs.declared.arming.Arming.{Arming}
use Rattle.fkv_epoch.specs.declared.arming.Arming.TheVariants as arm
use Rattle.fkv_epoch.specs.declared.claiming.Claiming.TheVariants as claim
use Rattle.fkv_epoch.specs.declared.leaving.Leaving.TheVariants as leave
use Rattle.fkv_epoch.specs.declared.protecting.Protecting.TheVariants as protect
use Rattle.fkv_epoch.specs.declared.raising.Raising.{Raising}
use Rattle.fkv_epoch.specs.declared.raising.Raising.TheVariants as raise
use Rattle.fkv_epoch.specs.declared.refreshing.Refreshing.TheVariants as refresh
use Rattle.fkv_epoch.specs.declared.scanning.Scanning.TheVariants as scan
use Rattle.fkv_epoch.specs.Protecting.{protect_ask}
use Rattle.fkv_epoch.specs.Refreshing.{refresh_ask}
use Rattle.fkv_epoch.specs.Leaving.{leave_ask}
use Rattle.fkv_epoch.specs.Scanning.{scan_ask}
use Rattle.fkv_epoch.specs.Claiming.{claim_ask}
use Rattle.fkv_epoch.specs.Raising.{raise_ask}
use Rattle.fkv_epoch.specs.Arming.{arm_ask}
use Rattle.fkv_epoch.specs.EpochWorld.{EpochMachine, Protects, Refreshes, Leaves, Scans, Claims, Raises, Arms, EpochWorld, is_own}
use Rattle.fkv_epoch.proofs.Shown as epochs
use Rattle.fkv_epoch.proofs.Shown.{none_some, some_same}
use Rattle.law_world.specs.Below.fkv_log.TheFilling.TheVariants as fill
use Rattle.law_world.specs.Below.fkv_log.TheInvalidating.TheVariants as invalidate
use Rattle.law_world.specs.Below.fkv_log.TheMoving.{Moving}
use Rattle.law_world.specs.Below.fkv_log.TheMoving.TheVariants as move
use Rattle.law_world.specs.Below.fkv_log.Offset.{Offset}
use Rattle.law_world.specs.Below.fkv_log.Offset.TheVariants.{ReadOnly, Head}
use Rattle.law_world.specs.Below.fkv_log.TheReserving.TheVariants as reserve
use Rattle.law_world.specs.Below.fkv_log.TheShifting.{Shifting}
use Rattle.law_world.specs.Below.fkv_log.TheShifting.TheVariants as shift
use Rattle.law_world.specs.Below.fkv_log.TheTurning.{Turning}
use Rattle.law_world.specs.Below.fkv_log.TheTurning.TheVariants as turn
use Rattle.law_world.specs.Below.fkv_log.Filling.{fill_ask}
use Rattle.law_world.specs.Below.fkv_log.Invalidating.{invalidate_ask}
use Rattle.law_world.specs.Below.fkv_log.Moving.{Mover, offset_place, move_ask, moving_ask}
use Rattle.law_world.specs.Below.fkv_log.Reserving.{reserve_ask}
use Rattle.law_world.specs.Below.fkv_log.Shifting.{shift_at, shifting_ask}
use Rattle.law_world.specs.Below.fkv_log.Turning.{turn_at, turning_ask}
use Rattle.law_world.specs.Below.fkv_flush.TheFlushing.TheVariants as flush
use Rattle.law_world.specs.Below.fkv_flush.TheServing.TheVariants as serve
use Rattle.law_world.specs.Below.fkv_flush.Flushing.{flush_ask}
use Rattle.law_world.specs.Below.fkv_flush.Serving.{serve_ask}
use Rattle.law_world.specs.Below.fkv_flush.GuardAsks.{writes, machine_writes}
use Rattle.law_world.specs.Below.fkv_flush.GuardLevels.{levels_of}
use Rattle.law_world.specs.Below.fkv_flush.GuardWorld.{Actor, Work, Rests, Reserves, Fills, Invalidates, Shifts, Turns, Flushes, Serves, GuardWorld, is_idle, is_guarded, epoch_world}
use Rattle.law_world.specs.Below.fkv_flush.Guarded.{work_writes, actor_writes}
use Rattle.law_world.proofs.Below.fkv_flush.Shown.{IsSound, Knows, Awake, MoveKnows, machine_at, writes_passed}

no_place : {X : Type 0} (place : ℕ) → ◌≡◌ {A = Option ℕ} None (Some place) → X
no_place {X} place e = none_some {Y = X} place e

-- a place of the words below the frames
abbrev IsLow : GuardWorld → Option ℕ → Type 0
IsLow w None = ⊤
IsLow w (Some place) = place < frames_start w.now.places

-- what an actor knows by its work
abbrev KnowsAt : GuardWorld → ℕ → Actor → Work → Type 0
KnowsAt w a x work = Knows w.now.shape (levels_of w.now.words) (Awake w.now a x.machine) x.machine x.undecided work

-- ---- the machines of the epochs write below the frames
run_low : (w : GuardWorld) (a slot c z : ℕ) (action : Action) → IsLow w (machine_writes a (Claims (claim.Runs slot c z action)))
unfolding claim_ask
run_low w a slot c z (act.SafeReadOnly addr) = omega arith
run_low w a slot c z (act.Close addr) = omega arith
run_low w a slot c z (act.Phase phase version) = omega arith

own_epoch_low : (w : GuardWorld) (a : ℕ) → a < w.now.places.sessions → session_place a own.Epoch < frames_start w.now.places
own_epoch_low w a below = omega (arith, below)

slot_low : (w : GuardWorld) (slot : ℕ) → slot < drain_slots → 16 + slot < frames_start w.now.places
slot_low w slot below = omega (arith, below)

epoch_low : (w : GuardWorld) (e : EpochWorld) (a : ℕ) (d : EpochMachine) → e.now.sessions ≡ w.now.places.sessions → epochs.IsSound e → slice_get e.now.actors a ≡ Some d → IsLow w (machine_writes a d)
unfolding protect_ask refresh_ask leave_ask scan_ask claim_ask raise_ask arm_ask
epoch_low w e a (Protects (protect.StoresEpoch c)) same sound got = let h = (sound.epochs.knows a (Protects (protect.StoresEpoch c)) got).0 in own_epoch_low w a (omega (arith, h, same))
epoch_low w e a (Refreshes (refresh.StoresEpoch c)) same sound got = let h = (sound.epochs.knows a (Refreshes (refresh.StoresEpoch c)) got).0 in own_epoch_low w a (omega (arith, h, same))
epoch_low w e a (Leaves leave.StoresZero) same sound got = let h = sound.epochs.knows a (Leaves leave.StoresZero) got in own_epoch_low w a (omega (arith, h, same))
epoch_low w e a (Scans (scan.RaisesSafe m)) same sound got = omega arith
epoch_low w e a (Claims (claim.TakesSlot slot word z)) same sound got = let h = (sound.slots.holds a (Claims (claim.TakesSlot slot word z)) got).0 in slot_low w slot h
epoch_low w e a (Claims (claim.Runs slot c z action)) same sound got = run_low w a slot c z action
epoch_low w e a (Claims (claim.FreesSlot slot z)) same sound got = let h = (sound.slots.holds a (Claims (claim.FreesSlot slot z)) got).0 in slot_low w slot h
epoch_low w e a (Raises (raise.HoldsSlot slot)) same sound got = let h : slot < drain_slots = sound.slots.holds a (Raises (raise.HoldsSlot slot)) got in slot_low w slot h
epoch_low w e a (Raises (raise.RaisesEpoch slot)) same sound got = omega arith
epoch_low w e a (Arms (arm.StoresEpoch slot c)) same sound got = let h = (sound.slots.holds a (Arms (arm.StoresEpoch slot c)) got).0 in slot_low w slot h
epoch_low w e a d same sound got = tt

machine_low : (w : GuardWorld) (a : ℕ) (x : Actor) (d : EpochMachine) → IsSound w → slice_get w.now.actors a ≡ Some x → x.machine ≡ d → IsLow w (machine_writes a d)
machine_low w a x d sound got its = epoch_low w (epoch_world w) a d refl sound.epochs (machine_at w.now.actors a x got ∙ ap Some its)

-- ---- and so do moves
offset_low : (w : GuardWorld) (offset : Offset) → offset_place offset < frames_start w.now.places
offset_low w ReadOnly = omega arith
offset_low w Head = omega arith

move_low : (w : GuardWorld) (a : ℕ) (x : Actor) (step : Moving) (raising : Raising) (arming : Arming) → IsSound w → slice_get w.now.actors a ≡ Some x → MoveKnows (levels_of w.now.words) x.machine step raising arming → IsLow w (writes (moving_ask step raising arming))
unfolding moving_ask
move_low w a x move.AtRest raising arming sound got k = absurd k
move_low w a x (move.Raises target) raising arming sound got k = rw (writes_passed (raise_ask raising) _) (machine_low w a x (Raises raising) sound got k.0)
move_low w a x (move.MovesOffset target) raising arming sound got k = offset_low w target.offset
move_low w a x (move.Puts target slot) raising arming sound got k = absurd k
move_low w a x move.Arms raising arm.AtRest sound got k = absurd k
move_low w a x move.Arms raising (arm.PutsAction slot c) sound got k = absurd k
move_low w a x move.Arms raising (arm.StoresEpoch slot c) sound got k = rw (writes_passed (arm_ask (arm.StoresEpoch slot c)) _) (machine_low w a x (Arms (arm.StoresEpoch slot c)) sound got k)

-- a low place is no frame's
low_none : {X : Type 0} (w : GuardWorld) (at : Option ℕ) (place : ℕ) → IsLow w at → at ≡ Some place → frames_start w.now.places ≤ place → X
low_none {X} w None place low e high = none_some {Y = X} place e
low_none {X} w (Some other) place low e high = let same = some_same other place e in absurd (omega (arith, low, same, high))

-- ---- a machine that writes a word of a frame
abbrev pub IsFrameWork : Work → Type 0
IsFrameWork (Fills step) = is_idle (Fills step) ≡ false
IsFrameWork (Invalidates step) = is_idle (Invalidates step) ≡ false
IsFrameWork work = ⊥

abbrev WritesFrame : GuardWorld → ℕ → Actor → Work → ℕ → Type 0
WritesFrame w a x work place = (if is_idle work then machine_writes a x.machine else work_writes w.now a x work) ≡ Some place → frames_start w.now.places ≤ place → IsFrameWork work

at_rest : {X : Type 0} (w : GuardWorld) (a : ℕ) (x : Actor) (place : ℕ) → IsSound w → slice_get w.now.actors a ≡ Some x → machine_writes a x.machine ≡ Some place → frames_start w.now.places ≤ place → X
at_rest {X} w a x place sound got e high = low_none {X = X} w (machine_writes a x.machine) place (machine_low w a x x.machine sound got refl) e high

shift_writes : (w : GuardWorld) (a : ℕ) (x : Actor) (step : Shifting) (m : Mover) (place : ℕ) → IsSound w → slice_get w.now.actors a ≡ Some x → x.work ≡ Shifts (shift_at step m) → WritesFrame w a x (Shifts (shift_at step m)) place
unfolding shifting_ask
shift_writes w a x shift.AtRest m place sound got its e high = at_rest w a x place sound got e high
shift_writes w a x shift.LoadsTail m place sound got its e high = no_place place e
shift_writes w a x (shift.LoadsReadOnly tail) m place sound got its e high = no_place place e
shift_writes w a x (shift.Moves tail) m place sound got its e high =
    low_none w (writes (move_ask m)) place (move_low w a x m.step m.raising m.arming sound got (subst (KnowsAt w a x) its (sound.knows a x got)))
    (sym (writes_passed (move_ask m) _) ∙ e) high

turn_writes : (w : GuardWorld) (a : ℕ) (x : Actor) (step : Turning) (m : Mover) (place : ℕ) → IsSound w → slice_get w.now.actors a ≡ Some x → x.work ≡ Turns (turn_at step m) → WritesFrame w a x (Turns (turn_at step m)) place
unfolding turning_ask
turn_writes w a x turn.AtRest m place sound got its e high = at_rest w a x place sound got e high
turn_writes w a x (turn.RaisesLimit limit) m place sound got its e high = low_none w (Some 4) place (omega arith) e high
turn_writes w a x turn.Moves m place sound got its e high =
    low_none w (writes (move_ask m)) place (move_low w a x m.step m.raising m.arming sound got (subst (KnowsAt w a x) its (sound.knows a x got)))
    (sym (writes_passed (move_ask m) _) ∙ e) high
turn_writes w a x step m place sound got its e high = no_place place e

mail_low : (w : GuardWorld) (a : ℕ) (x : Actor) (session place word : ℕ) → IsSound w → session < w.now.shape.sessions → word < 16 → Some (24 + 16 * session + word) ≡ Some place → frames_start w.now.places ≤ place → ⊥
mail_low w a x session place word sound k small e high =
    let s = sound.fits.sessions in low_none w (Some (24 + 16 * session + word)) place (omega (arith, k, s, small)) e high

writes_by : (w : GuardWorld) (a : ℕ) (x : Actor) (work : Work) (place : ℕ) → IsSound w → slice_get w.now.actors a ≡ Some x → x.work ≡ work → WritesFrame w a x work place
unfolding reserve_ask fill_ask invalidate_ask flush_ask serve_ask
writes_by w a x Rests place sound got its e high = at_rest w a x place sound got e high
writes_by w a x (Reserves reserve.AtRest) place sound got its e high = at_rest w a x place sound got e high
writes_by w a x (Reserves (reserve.LoadsLimit bound)) place sound got its e high = no_place place e
writes_by w a x (Reserves (reserve.LoadsTail limit)) place sound got its e high = no_place place e
writes_by w a x (Reserves (reserve.TakesTail tail)) place sound got its e high = low_none w (Some 3) place (omega arith) e high
writes_by w a x (Fills fill.AtRest) place sound got its e high = at_rest w a x place sound got e high
writes_by w a x (Fills (fill.StoresValue addr its_words)) place sound got its e high = refl
writes_by w a x (Fills (fill.StoresKey addr its_words)) place sound got its e high = refl
writes_by w a x (Fills (fill.StoresHeader addr its_words)) place sound got its e high = refl
writes_by w a x (Invalidates invalidate.AtRest) place sound got its e high = at_rest w a x place sound got e high
writes_by w a x (Invalidates (invalidate.StoresHeader addr header)) place sound got its e high = refl
writes_by w a x (Shifts s) place sound got its e high = shift_writes w a x s.step s.mover place sound got its e high
writes_by w a x (Turns s) place sound got its e high = turn_writes w a x s.step s.mover place sound got its e high
writes_by w a x (Flushes flush.AtRest bytes) place sound got its e high = at_rest w a x place sound got e high
writes_by w a x (Flushes (flush.RaisesFlushed end) bytes) place sound got its e high = low_none w (Some 7) place (omega arith) e high
writes_by w a x (Flushes step bytes) place sound got its e high = no_place place e
writes_by w a x (Serves begin serve.AtRest) place sound got its e high = at_rest w a x place sound got e high
writes_by w a x (Serves begin (serve.LoadsState session)) place sound got its e high = no_place place e
writes_by w a x (Serves begin (serve.LoadsAddress session)) place sound got its e high = no_place place e
writes_by w a x (Serves begin (serve.Reads session addr)) place sound got its e high = no_place place e
writes_by w a x (Serves begin (serve.StoresHeader session mail)) place sound got its e high =
    mail_low w a x session place 7 sound (subst (KnowsAt w a x) its (sound.knows a x got)) (omega arith) e high
writes_by w a x (Serves begin (serve.StoresKey session mail)) place sound got its e high =
    mail_low w a x session place 8 sound (subst (KnowsAt w a x) its (sound.knows a x got)) (omega arith) e high
writes_by w a x (Serves begin (serve.StoresValue session mail)) place sound got its e high =
    mail_low w a x session place 9 sound (subst (KnowsAt w a x) its (sound.knows a x got)) (omega arith) e high
writes_by w a x (Serves begin (serve.StoresReady session)) place sound got its e high =
    mail_low w a x session place 5 sound (subst (KnowsAt w a x) its (sound.knows a x got)) (omega arith) e high

pub frame_work : (w : GuardWorld) (a : ℕ) (x : Actor) (place : ℕ) → IsSound w → slice_get w.now.actors a ≡ Some x → actor_writes w.now a (slice_get w.now.actors a) ≡ Some place → frames_start w.now.places ≤ place → IsFrameWork x.work
frame_work w a x place sound got e high = writes_by w a x x.work place sound got refl (sym (ap (actor_writes w.now a) got) ∙ e) high

-- a change of a word that is none of the guard's
pub change_none : {X : Type 0} (w : GuardWorld) (place other : ℕ) → (if is_guarded w.now.places place then None else Some place) ≡ Some other → frames_start w.now.places ≤ other → X
change_none {X} w place other e high = by_test (is_guarded w.now.places place) refl
  where
    last : (b c : Bool) → (b || c) ≡ false → c ≡ false
    last true c f = cc
    last false c f = f

    by_test : (b : Bool) → is_guarded w.now.places place ≡ b → X
    by_test true m = let its : ◌≡◌ {A = Option ℕ} None (Some other) = rw m at e in no_place other its
    by_test false m =
        let its : Some place ≡ Some other = rw m at e in
        let same = some_same place other its in
        let n : nat_le (frames_start w.now.places) place ≡ false = last (is_own w.now.places.sessions place || (nat_le 3 place && nat_lt place 10)) (nat_le (frames_start w.now.places) place) m in
        let low : place < frames_start w.now.places = grind (arith, nat_tests, n) in
        absurd (omega (arith, same, low, high))
