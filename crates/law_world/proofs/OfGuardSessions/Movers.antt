-- What a shift shows of its machine of the epochs, and that it goes on behind an action that is put.
use Rattle.std.proofs.Common.{◌≡◌, ℕ, List, [], ◌∷◌, refl, sym, ap, subst, ◌∙◌, Bool, true, false}
use Rattle.std.specs.Prelude.{Option, Some, slice_get, nat_lt}
use Rattle.fkv_base.specs.declared.shapes.Shape.{Shape}
use Rattle.fkv_plane.specs.declared.actions.Action.{Action}
use Rattle.fkv_plane.specs.declared.asks.Ask.{Ask}
use Rattle.fkv_plane.specs.declared.asks.Ask.TheVariants.{Done}
use Rattle.fkv_plane.specs.Passing.{passed, is_done}
use Rattle.fkv_plane.proofs.Shown.{passed_done}
use Rattle.fkv_epoch.specs.declared.raising.Raising.{Raising}
use Rattle.fkv_epoch.specs.declared.raising.Raising.TheVariants as raise
use Rattle.fkv_epoch.specs.declared.arming.Arming.{Arming}
use Rattle.fkv_epoch.specs.declared.arming.Arming.TheVariants as arm
use Rattle.fkv_epoch.specs.Raising.{raise_ask}
use Rattle.fkv_epoch.specs.EpochWorld.{EpochMachine}
use Rattle.fkv_log.specs.declared.moving.MoveAnswer.{MoveAnswer}
use Rattle.fkv_log.specs.declared.moving.Moving.{Moving}
use Rattle.fkv_log.specs.declared.moving.Moving.TheVariants as move
use Rattle.fkv_log.specs.declared.shifting.Shifting.{Shifting}
use Rattle.fkv_log.specs.declared.shifting.Shifting.TheVariants as shift
use Rattle.fkv_log.specs.Moving.{Mover, move_ask, move_next, move_next_ask, moving_ask}
use Rattle.fkv_log.specs.Shifting.{ShiftState, shift_next, shift_next_ask, shift_ask, shifting_ask, shifting_next, shifting_next_ask, shift_led, move_told, mutable_start}
use Rattle.fkv_log.proofs.Shown.{move_goes_on}
use Rattle.fkv_flush.specs.GuardLevels.{Levels, levels_of}
use Rattle.fkv_flush.specs.GuardWorld.{Actor, Shifts, GuardNow, GuardNear, GuardWorld, GuardEvent, put_near, is_idle, shift_rests, actions_after, guard_happens, past_after}
use Rattle.fkv_flush.proofs.Shown.{runs_now, put_there, FitsMachine, MoveKnows, ShiftKnows, Knows, Awake, IsSound, happens_sound}
use Rattle.law_world.specs.GuardSessions.OwnTurns.{moving_machine, shift_machine}

pub move_fits : (l : Levels) (d : EpochMachine) (step : Moving) (raising : Raising) (arming : Arming) → MoveKnows l d step raising arming → FitsMachine (moving_machine step raising arming) d
move_fits l d move.AtRest raising arming k = absurd k
move_fits l d (move.Raises target) raising arming k = k.0
move_fits l d (move.MovesOffset target) (raise.HasSlot slot) arming k = k.0
move_fits l d (move.MovesOffset target) raising arming k = absurd k
move_fits l d (move.Puts target slot) raising arming k = absurd k
move_fits l d move.Arms raising (arm.StoresEpoch slot c) k = k
move_fits l d move.Arms raising arming k = absurd k

pub shift_fits : (l : Levels) (d : EpochMachine) (step : Shifting) (m : Mover) → ShiftKnows l d step m → shift_rests step ≡ false → FitsMachine (shift_machine step m) d
shift_fits l d shift.AtRest m k e = cc
shift_fits l d shift.LoadsTail m k e = k.1
shift_fits l d (shift.LoadsReadOnly tail) m k e = k.0.1
shift_fits l d (shift.Moves tail) m k e = move_fits l d m.step m.raising m.arming k

-- what the guard knows of an actor after its event
pub known_after : (w : GuardWorld) (a : ℕ) (x : Actor) (event : GuardEvent) (here : GuardNear) → IsSound w → slice_get w.now.actors a ≡ Some x → runs_now w.now (event ∷ []) ≡ put_near w.now a here
    → Knows w.now.shape (levels_of here.words) (Awake (put_near w.now a here) a here.actor.machine) here.actor.machine here.actor.undecided here.actor.work
unfolding guard_happens
known_after w a x event here sound got led =
    let there : GuardWorld = record { now = put_near w.now a here; past = past_after w.now event w.past } in
    let same : guard_happens w event ≡ there = ap (λ (n : GuardNow). record { now = n; past = past_after w.now event w.past }) led in
    let its : IsSound there = subst IsSound same (happens_sound w event sound) in
    its.knows a here.actor (put_there w.now a x here got)

-- at rest nothing is put
shifting_rests : (actions : List (Option Action)) (step : Shifting) (m : Mover) → shift_rests step ≡ true → actions_after actions (shifting_ask step m) ≡ actions
unfolding shifting_ask
shifting_rests actions shift.AtRest m e = refl
shifting_rests actions step m e = cc

pub shift_rests_so : (actions : List (Option Action)) (t : ShiftState) → is_idle (Shifts t) ≡ true → actions_after actions (shift_ask t) ≡ actions
shift_rests_so actions t e = shifting_rests actions t.step t.mover e

-- who is told an end is at rest
pub clash : {X : Type 0} (b : Bool) → b ≡ true → b ≡ false → X
clash b e f = cc

shift_told_rests : (tail : ℕ) (m : Mover) (ask : Ask MoveAnswer) → (is_done ask ≡ false → ask ≡ move_ask m) → is_done (move_told tail ask (shift_led tail m ask)) ≡ true → shift_rests (shift_led tail m ask).step ≡ true
unfolding move_told shift_led shifting_ask
shift_told_rests tail m (Done inner) h e = refl
shift_told_rests tail m ask h e = clash (is_done (passed (move_ask m) _)) e (passed_done (move_ask m) _ ∙ ap is_done (sym (h refl)))

shift_begun_rests : (shape : Shape) (tail : ℕ) (m : Mover) (reply : ℕ) (b : Bool) → nat_lt reply (mutable_start shape.page shape.mutable tail) ≡ b → is_done (shifting_next_ask shape (shift.LoadsReadOnly tail) m reply) ≡ true
    → shift_rests (shifting_next shape (shift.LoadsReadOnly tail) m reply).step ≡ true
unfolding shifting_next_ask shifting_next shifting_ask moving_ask raise_ask passed
shift_begun_rests shape tail m reply true f e = let g = rw f at e in cc
shift_begun_rests shape tail m reply false f e = rw f refl

shifting_told : (shape : Shape) (step : Shifting) (m : Mover) (reply : ℕ) → is_done (shifting_next_ask shape step m reply) ≡ true → shift_rests (shifting_next shape step m reply).step ≡ true
unfolding shifting_next_ask shifting_next shifting_ask
shifting_told shape shift.AtRest m reply e = refl
shifting_told shape shift.LoadsTail m reply e = cc
shifting_told shape (shift.LoadsReadOnly tail) m reply e = shift_begun_rests shape tail m reply (nat_lt reply (mutable_start shape.page shape.mutable tail)) refl e
shifting_told shape (shift.Moves tail) m reply e = shift_told_rests tail (move_next m reply) (move_next_ask m reply) (move_goes_on m reply) e

pub under_way : (b c : Bool) → (b ≡ true → c ≡ true) → c ≡ false → b ≡ false
under_way true c h e = clash c (h refl) e
under_way false c h e = refl

pub shift_under_way : (shape : Shape) (t : ShiftState) (reply : ℕ) → is_idle (Shifts (shift_next shape t reply)) ≡ false → is_done (shift_next_ask shape t reply) ≡ false
shift_under_way shape t reply e = under_way (is_done (shift_next_ask shape t reply)) (is_idle (Shifts (shift_next shape t reply))) (shifting_told shape t.step t.mover reply) e
