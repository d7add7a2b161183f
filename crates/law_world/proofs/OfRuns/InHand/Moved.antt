-- Behind an action that it has put a move goes on: it arms the slot. So do the shift and the turn that it is a part of.
use Rattle.std.proofs.Common.{◌≡◌, ℕ, ◌∙◌, ◌/◌, refl, Bool, true, false}
use Rattle.std.specs.Prelude.{nat_lt, nat_le, if◌then◌else◌}
use Rattle.fkv_base.specs.declared.shapes.Shape.{Shape}
use Rattle.fkv_plane.specs.declared.asks.Ask.{Ask}
use Rattle.fkv_plane.specs.declared.asks.Ask.TheVariants.{Done}
use Rattle.fkv_plane.specs.Passing.{is_done, passed}
use Rattle.fkv_plane.proofs.Shown.{passed_done}
use Rattle.fkv_epoch.specs.declared.arming.Arming.{Arming}
use Rattle.fkv_epoch.specs.declared.arming.Arming.TheVariants as arm
use Rattle.fkv_epoch.specs.declared.raising.RaiseAnswer.{RaiseAnswer}
use Rattle.fkv_epoch.specs.declared.raising.RaiseAnswer.TheVariants as raised
use Rattle.fkv_epoch.specs.declared.raising.Raising.{Raising}
use Rattle.fkv_epoch.specs.Arming.{arm_ask, arm_next}
use Rattle.fkv_epoch.specs.Raising.{raise_ask, raise_next, raise_next_ask, raise_on}
use Rattle.fkv_log.specs.declared.moving.MoveAnswer.{MoveAnswer}
use Rattle.fkv_log.specs.declared.moving.MoveAnswer.TheVariants as moved
use Rattle.fkv_log.specs.declared.moving.Moving.{Moving}
use Rattle.fkv_log.specs.declared.moving.Moving.TheVariants as move
use Rattle.fkv_log.specs.declared.moving.Target.{Target}
use Rattle.fkv_log.specs.declared.shifting.ShiftAnswer.TheVariants as shift_told
use Rattle.fkv_log.specs.declared.shifting.Shifting.{Shifting}
use Rattle.fkv_log.specs.declared.shifting.Shifting.TheVariants as shift
use Rattle.fkv_log.specs.declared.turning.TurnForm.TheVariants as form
use Rattle.fkv_log.specs.declared.turning.Turning.{Turning}
use Rattle.fkv_log.specs.declared.turning.Turning.TheVariants as turn
use Rattle.fkv_log.specs.Moving.{Mover, moving_ask, moving_next, moving_next_ask, move_ask, move_next, move_next_ask, raise_led, arm_led}
use Rattle.fkv_log.specs.Shifting.{ShiftState, shift_at, shifting_ask, shifting_next, shifting_next_ask, shift_ask, shift_next, shift_next_ask, shift_led, move_told, mutable_start}
use Rattle.fkv_log.specs.Turning.{TurnState, turn_at, turning_ask, turning_next, turning_next_ask, turn_ask, turn_next, turn_next_ask, turn_led, turn_told, frame_end, pages_wanted}
use Rattle.law_world.proofs.OfRuns.NoSlots.{IsOffSlots}
use Rattle.law_world.proofs.OfRuns.InHand.Asks.{AtSlot, at_more, off_at, passed_at, raise_off}

-- it isn't at its end behind the next reply
abbrev pub MoveStays : Mover → Type 0
MoveStays m = (is_done (move_next_ask m 0) ≡ false) × (is_done (move_ask (move_next m 0)) ≡ false)

abbrev MoveAt : Type 0 → Mover → Type 0
MoveAt took m = AtSlot (MoveStays m) took (move_ask m)

raised_at : (took : Type 0) (target : Target) (raising : Raising) (arming : Arming) (ask : Ask RaiseAnswer) → MoveAt took (raise_led target raising arming ask)
unfolding raise_led moving_ask moving_next moving_next_ask arm_led arm_next arm_ask passed
raised_at took target raising arming (Done (raised.HasSlot slot)) = tt
raised_at took target raising arming (Done raised.NoSlot) = tt
raised_at took target raising arming (Done raised.Spent) = tt
raised_at took target raising arming (Done (raised.Raised slot epoch)) = (refl, refl)
raised_at took target raising arming ask = passed_at _ took (raise_ask raising) moved.Through (off_at _ took (raise_ask raising) (raise_off raising))

pub arm_off : (step : Arming) → IsOffSlots (arm_ask step)
unfolding arm_ask
arm_off arm.AtRest = tt
arm_off (arm.PutsAction slot epoch) = tt
arm_off (arm.StoresEpoch slot epoch) = tt

armed_at : (took : Type 0) (raising : Raising) (arming : Arming) (ask : Ask (Unit {0})) → MoveAt took (arm_led raising arming ask)
unfolding arm_led moving_ask
armed_at took raising arming (Done its) = tt
armed_at took raising arming ask = passed_at _ took (arm_ask arming) moved.Through (off_at _ took (arm_ask arming) (arm_off arming))

moving_at : (took : Type 0) (step : Moving) (raising : Raising) (arming : Arming) (reply : ℕ) → MoveAt took (moving_next step raising arming reply)
unfolding moving_next moving_ask
moving_at took move.AtRest raising arming reply = tt
moving_at took (move.Raises target) raising arming reply = raised_at took target (raise_next raising reply) arming (raise_next_ask raising reply)
moving_at took (move.MovesOffset target) raising arming reply = raised_at took target (raise_on raising) arming (raise_ask (raise_on raising))
moving_at took (move.Puts target slot) raising arming reply = armed_at took raising (arm_next arming) (arm_ask (arm_next arming))
moving_at took move.Arms raising arming reply = armed_at took raising (arm_next arming) (arm_ask (arm_next arming))

-- the shift
abbrev pub ShiftStays : Shape → ShiftState → Type 0
ShiftStays shape s = (is_done (shift_next_ask shape s 0) ≡ false) × (is_done (shift_ask (shift_next shape s 0)) ≡ false)

abbrev pub ShiftAt : Shape → Type 0 → ShiftState → Type 0
ShiftAt shape took s = AtSlot (ShiftStays shape s) took (shift_ask s)

shift_on : (tail : ℕ) (m : Mover) (ask : Ask MoveAnswer) → is_done ask ≡ false → is_done (move_ask m) ≡ false
    → (is_done (move_told tail ask (shift_led tail m ask)) ≡ false) × (is_done (shift_ask (shift_led tail m ask)) ≡ false)
unfolding move_told shift_led shifting_ask
shift_on tail m (Done its) asks after = cc
shift_on tail m ask asks after = let its = passed_done (move_ask m) (shift_told.Through (record { 0 = tail })) ∙ after in (its, its)

shift_stays : (shape : Shape) (tail : ℕ) (m : Mover) → MoveStays m → ShiftStays shape (shift_at (shift.Moves tail) m)
unfolding shifting_next_ask shifting_next
shift_stays shape tail m its = shift_on tail (move_next m 0) (move_next_ask m 0) its.0 its.1

shift_led_at : (shape : Shape) (took : Type 0) (tail : ℕ) (m : Mover) (ask : Ask MoveAnswer) → MoveAt took m → ShiftAt shape took (shift_led tail m ask)
unfolding shift_led shifting_ask
shift_led_at shape took tail m (Done its) at = tt
shift_led_at shape took tail m ask at =
    passed_at (ShiftStays shape (shift_at (shift.Moves tail) m)) took (move_ask m) _ (at_more (MoveStays m) took (ShiftStays shape (shift_at (shift.Moves tail) m)) took (move_ask m) (shift_stays shape tail m) (λ x. x) at)

shift_either : (shape : Shape) (took : Type 0) (b : Bool) (s t : ShiftState) → ShiftAt shape took s → ShiftAt shape took t → ShiftAt shape took (if b then s else t)
shift_either shape took true s t one other = one
shift_either shape took false s t one other = other

shifting_at : (shape : Shape) (took : Type 0) (step : Shifting) (m : Mover) (reply : ℕ) → ShiftAt shape took (shifting_next shape step m reply)
unfolding shifting_next shifting_ask moving_ask raise_ask passed
shifting_at shape took shift.AtRest m reply = tt
shifting_at shape took shift.LoadsTail m reply = tt
shifting_at shape took (shift.LoadsReadOnly tail) m reply = shift_either shape took (nat_lt reply (mutable_start shape.page shape.mutable tail)) _ _ tt tt
shifting_at shape took (shift.Moves tail) m reply = shift_led_at shape took tail (move_next m reply) (move_next_ask m reply) (moving_at took m.step m.raising m.arming reply)

pub shift_next_at : (shape : Shape) (took : Type 0) (s : ShiftState) (reply : ℕ) → ShiftAt shape took (shift_next shape s reply)
shift_next_at shape took s reply = shifting_at shape took s.step s.mover reply

-- the turn
abbrev pub TurnStays : Shape → TurnState → Type 0
TurnStays shape s = (is_done (turn_next_ask shape s 0) ≡ false) × (is_done (turn_ask shape (turn_next shape s 0)) ≡ false)

abbrev pub TurnAt : Shape → Type 0 → TurnState → Type 0
TurnAt shape took s = AtSlot (TurnStays shape s) took (turn_ask shape s)

turn_on : (shape : Shape) (m : Mover) (ask : Ask MoveAnswer) → is_done ask ≡ false → is_done (move_ask m) ≡ false
    → (is_done (turn_told shape ask (turn_led m ask)) ≡ false) × (is_done (turn_ask shape (turn_led m ask)) ≡ false)
unfolding turn_told turn_led turning_ask
turn_on shape m (Done its) asks after = cc
turn_on shape m ask asks after = let its = passed_done (move_ask m) moved.Through ∙ after in (its, its)

turn_stays : (shape : Shape) (m : Mover) → MoveStays m → TurnStays shape (turn_at turn.Moves m)
unfolding turning_next_ask turning_next
turn_stays shape m its = turn_on shape (move_next m 0) (move_next_ask m 0) its.0 its.1

turn_led_at : (shape : Shape) (took : Type 0) (m : Mover) (ask : Ask MoveAnswer) → MoveAt took m → TurnAt shape took (turn_led m ask)
unfolding turn_led turning_ask
turn_led_at shape took m (Done its) at = tt
turn_led_at shape took m ask at =
    passed_at (TurnStays shape (turn_at turn.Moves m)) took (move_ask m) _ (at_more (MoveStays m) took (TurnStays shape (turn_at turn.Moves m)) took (move_ask m) (turn_stays shape m) (λ x. x) at)

turn_either : (shape : Shape) (took : Type 0) (b : Bool) (s t : Turning) (m : Mover) → TurnAt shape took (turn_at s m) → TurnAt shape took (turn_at t m) → TurnAt shape took (turn_at (if b then s else t) m)
turn_either shape took true s t m one other = one
turn_either shape took false s t m one other = other

moves_either : (shape : Shape) (took : Type 0) (b : Bool) (s t : TurnState) → TurnAt shape took s → TurnAt shape took t → TurnAt shape took (if b then s else t)
moves_either shape took true s t one other = one
moves_either shape took false s t one other = other

turning_at : (shape : Shape) (took : Type 0) (step : Turning) (m : Mover) (reply : ℕ) → TurnAt shape took (turning_next shape step m reply)
unfolding turning_next turning_ask moving_ask raise_ask passed
turning_at shape took turn.AtRest m reply = tt
turning_at shape took (turn.LoadsLimit form tail) m reply = turn_either shape took (nat_lt (reply / shape.page) (pages_wanted shape tail)) (turn.LoadsClosed form reply) turn.AtRest m tt tt
turning_at shape took (turn.LoadsClosed form.Whole limit) m reply = turn_either shape took (nat_le (frame_end shape limit) reply) (turn.RaisesLimit limit) (turn.LoadsHead (frame_end shape limit)) m tt tt
turning_at shape took (turn.LoadsClosed form.OpensOnly limit) m reply = turn_either shape took (nat_le (frame_end shape limit) reply) (turn.RaisesLimit limit) turn.AtRest m tt tt
turning_at shape took (turn.RaisesLimit limit) m reply = tt
turning_at shape took (turn.LoadsHead end) m reply = turn_either shape took (nat_lt reply end) (turn.LoadsFlushed end) turn.AtRest m tt tt
turning_at shape took (turn.LoadsFlushed end) m reply = moves_either shape took (nat_le end reply) _ _ tt tt
turning_at shape took turn.Moves m reply = turn_led_at shape took (move_next m reply) (move_next_ask m reply) (moving_at took m.step m.raising m.arming reply)

pub turn_next_at : (shape : Shape) (took : Type 0) (s : TurnState) (reply : ℕ) → TurnAt shape took (turn_next shape s reply)
turn_next_at shape took s reply = turning_at shape took s.step s.mover reply
