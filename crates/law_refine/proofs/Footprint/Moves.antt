-- The asks with which an offset is moved, and those of a shift and of a turn, spare each part, where their drain slots are those that there are.
use Rattle.std.proofs.Common.{ℕ, inl, Bool, true, false}
use Rattle.std.specs.Prelude.{if◌then◌else◌, nat_lt, nat_le, ⊤}
use Rattle.fkv_base.specs.declared.shapes.Shape.{Shape}
use Rattle.fkv_plane.specs.declared.asks.Ask.{Ask}
use Rattle.fkv_plane.specs.declared.asks.Ask.TheVariants.{Done}
use Rattle.fkv_plane.specs.declared.places.Places.{Places}
use Rattle.fkv_plane.specs.declared.places.SharedWord.TheVariants as one
use Rattle.fkv_epoch.specs.declared.arming.Arming.{Arming}
use Rattle.fkv_epoch.specs.declared.raising.RaiseAnswer.{RaiseAnswer}
use Rattle.fkv_epoch.specs.declared.raising.RaiseAnswer.TheVariants as raised
use Rattle.fkv_epoch.specs.declared.raising.Raising.{Raising}
use Rattle.fkv_epoch.specs.Arming.{arm_ask, arm_next}
use Rattle.fkv_epoch.specs.Raising.{IsRaiseInRange, raise_ask, raise_next, raise_next_ask, raise_on, HasSlotInRange}
use Rattle.fkv_epoch.proofs.Shown.{next_in_range, on_in_range, next_ask_in_range}
use Rattle.law_world.specs.Below.fkv_log.MoveAnswer.{MoveAnswer}
use Rattle.law_world.specs.Below.fkv_log.TheMoving.{Moving}
use Rattle.law_world.specs.Below.fkv_log.TheMoving.TheVariants as move
use Rattle.law_world.specs.Below.fkv_log.Offset.{Offset}
use Rattle.law_world.specs.Below.fkv_log.Offset.TheVariants.{ReadOnly, Head}
use Rattle.law_world.specs.Below.fkv_log.Target.{Target}
use Rattle.law_world.specs.Below.fkv_log.TheShifting.{Shifting}
use Rattle.law_world.specs.Below.fkv_log.TheShifting.TheVariants as shift
use Rattle.law_world.specs.Below.fkv_log.TurnForm.{TurnForm}
use Rattle.law_world.specs.Below.fkv_log.TurnForm.TheVariants.{Whole, OpensOnly}
use Rattle.law_world.specs.Below.fkv_log.TheTurning.{Turning}
use Rattle.law_world.specs.Below.fkv_log.TheTurning.TheVariants as turn
use Rattle.law_world.specs.Below.fkv_log.Moving.{Mover, offset_place, move_begun, moving_ask, raise_led, arm_led, moving_next, move_next, move_next_ask}
use Rattle.law_world.specs.Below.fkv_log.Shifting.{ShiftState, shift_at, mutable_start, shifting_ask, shift_ask, shift_led, shifting_next, shift_next}
use Rattle.law_world.specs.Below.fkv_log.Turning.{TurnState, turn_at, frame_end, frame_taken, turning_ask, turn_ask, turn_led, turning_next, turn_next}
use Rattle.law_refine.specs.Footprint.{Part, IsOutside, Spares}
use Rattle.law_refine.proofs.Footprint.Latching.{passed_spares}
use Rattle.law_refine.proofs.Footprint.Outside.{shared_outside}
use Rattle.law_refine.proofs.Footprint.Epochs.{raise_spares, asks_range, ArmsInRange, arm_spares, arm_range}

-- a move
abbrev pub MovesInRange : Moving → Raising → Arming → Type 0
MovesInRange move.AtRest raising arming = ⊤
MovesInRange (move.Raises target) raising arming = IsRaiseInRange raising
MovesInRange (move.MovesOffset target) raising arming = IsRaiseInRange raising
MovesInRange (move.Puts target slot) raising arming = ArmsInRange arming
MovesInRange move.Arms raising arming = ArmsInRange arming

abbrev pub IsMoveInRange : Mover → Type 0
IsMoveInRange m = MovesInRange m.step m.raising m.arming

offset_spares : (part : Part) (p : Places) (offset : Offset) → IsOutside part p (offset_place offset)
offset_spares part p ReadOnly = shared_outside part p one.ReadOnly (λ e. cc) (λ e. cc)
offset_spares part p Head = shared_outside part p one.Head (λ e. cc) (λ e. cc)

move_spares : (part : Part) (p : Places) (step : Moving) (raising : Raising) (arming : Arming) → MovesInRange step raising arming → Spares part p (moving_ask step raising arming)
unfolding moving_ask
move_spares part p move.AtRest raising arming range = tt
move_spares part p (move.Raises target) raising arming range = passed_spares part p _ _ (raise_spares part p raising range)
move_spares part p (move.MovesOffset target) raising arming range = offset_spares part p target.offset
move_spares part p (move.Puts target slot) raising arming range = tt
move_spares part p move.Arms raising arming range = passed_spares part p _ _ (arm_spares part p arming range)

led_range : (target : Target) (raising : Raising) (arming : Arming) (ask : Ask RaiseAnswer) → IsRaiseInRange raising → HasSlotInRange ask → IsMoveInRange (raise_led target raising arming ask)
unfolding raise_led
led_range target raising arming (Done (raised.HasSlot slot)) range told = range
led_range target raising arming (Done (raised.Raised slot epoch)) range told = told
led_range target raising arming (Done its) range told = tt
led_range target raising arming ask range told = range

arms_range : (raising : Raising) (arming : Arming) (ask : Ask (Unit {0})) → ArmsInRange arming → IsMoveInRange (arm_led raising arming ask)
unfolding arm_led
arms_range raising arming (Done its) range = tt
arms_range raising arming ask range = range

move_range : (step : Moving) (raising : Raising) (arming : Arming) (reply : ℕ) → MovesInRange step raising arming → IsMoveInRange (moving_next step raising arming reply)
unfolding moving_next
move_range move.AtRest raising arming reply range = tt
move_range (move.Raises target) raising arming reply range = led_range target (raise_next raising reply) arming (raise_next_ask raising reply) (next_in_range raising reply range) (next_ask_in_range raising reply range)
move_range (move.MovesOffset target) raising arming reply range = led_range target (raise_on raising) arming (raise_ask (raise_on raising)) (on_in_range raising range) (asks_range (raise_on raising))
move_range (move.Puts target slot) raising arming reply range = arms_range raising (arm_next arming) (arm_ask (arm_next arming)) (arm_range arming range)
move_range move.Arms raising arming reply range = arms_range raising (arm_next arming) (arm_ask (arm_next arming)) (arm_range arming range)

-- a shift
abbrev pub ShiftsInRange : Shifting → Mover → Type 0
ShiftsInRange (shift.Moves tail) m = IsMoveInRange m
ShiftsInRange step m = ⊤

abbrev pub IsShiftInRange : ShiftState → Type 0
IsShiftInRange s = ShiftsInRange s.step s.mover

shifting_spares : (part : Part) (p : Places) (step : Shifting) (m : Mover) → ShiftsInRange step m → Spares part p (shifting_ask step m)
unfolding shifting_ask
shifting_spares part p (shift.Moves tail) m range = passed_spares part p _ _ (move_spares part p m.step m.raising m.arming range)
shifting_spares part p step m range = tt

pub shift_spares : (part : Part) (p : Places) (s : ShiftState) → IsShiftInRange s → Spares part p (shift_ask s)
shift_spares part p s range = shifting_spares part p s.step s.mover range

shift_either : (c : Bool) (a b : ShiftState) → IsShiftInRange a → IsShiftInRange b → IsShiftInRange (if c then a else b)
shift_either true a b one other = one
shift_either false a b one other = other

shift_led_range : (tail : ℕ) (m : Mover) (ask : Ask MoveAnswer) → IsMoveInRange m → IsShiftInRange (shift_led tail m ask)
unfolding shift_led
shift_led_range tail m (Done its) range = tt
shift_led_range tail m ask range = range

shifts_range : (shape : Shape) (step : Shifting) (m : Mover) (reply : ℕ) → ShiftsInRange step m → IsShiftInRange (shifting_next shape step m reply)
unfolding shifting_next
shifts_range shape shift.AtRest m reply range = tt
shifts_range shape shift.LoadsTail m reply range = tt
shifts_range shape (shift.LoadsReadOnly tail) m reply range =
    let start : ℕ = mutable_start shape.page shape.mutable tail in
    shift_either (nat_lt reply start) (shift_at (shift.Moves tail) (move_begun ReadOnly start)) (shift_at shift.AtRest m) tt tt
shifts_range shape (shift.Moves tail) m reply range = shift_led_range tail (move_next m reply) (move_next_ask m reply) (move_range m.step m.raising m.arming reply range)

pub shift_range : (shape : Shape) (s : ShiftState) (reply : ℕ) → IsShiftInRange s → IsShiftInRange (shift_next shape s reply)
shift_range shape s reply range = shifts_range shape s.step s.mover reply range

-- a turn
abbrev pub TurnsInRange : Turning → Mover → Type 0
TurnsInRange turn.Moves m = IsMoveInRange m
TurnsInRange step m = ⊤

abbrev pub IsTurnInRange : TurnState → Type 0
IsTurnInRange s = TurnsInRange s.step s.mover

turning_spares : (part : Part) (p : Places) (shape : Shape) (step : Turning) (m : Mover) → TurnsInRange step m → Spares part p (turning_ask shape step m)
unfolding turning_ask
turning_spares part p shape (turn.RaisesLimit limit) m range = inl (shared_outside part p one.Limit (λ e. cc) (λ e. cc))
turning_spares part p shape turn.Moves m range = passed_spares part p _ _ (move_spares part p m.step m.raising m.arming range)
turning_spares part p shape step m range = tt

pub turn_spares : (part : Part) (p : Places) (shape : Shape) (s : TurnState) → IsTurnInRange s → Spares part p (turn_ask shape s)
turn_spares part p shape s range = turning_spares part p shape s.step s.mover range

-- it makes no move yet
abbrev MovesNot : Turning → Type 0
MovesNot turn.Moves = ⊥
MovesNot step = ⊤

moves_either : (c : Bool) (a b : Turning) → MovesNot a → MovesNot b → MovesNot (if c then a else b)
moves_either true a b one other = one
moves_either false a b one other = other

taken_not : (form : TurnForm) (end : ℕ) → MovesNot (frame_taken form end)
taken_not Whole end = tt
taken_not OpensOnly end = tt

not_range : (step : Turning) (m : Mover) → MovesNot step → TurnsInRange step m
not_range turn.Moves m still = absurd still
not_range step m still = tt

turn_either : (c : Bool) (a b : TurnState) → IsTurnInRange a → IsTurnInRange b → IsTurnInRange (if c then a else b)
turn_either true a b one other = one
turn_either false a b one other = other

turn_led_range : (m : Mover) (ask : Ask MoveAnswer) → IsMoveInRange m → IsTurnInRange (turn_led m ask)
unfolding turn_led
turn_led_range m (Done its) range = tt
turn_led_range m ask range = range

turns_range : (shape : Shape) (step : Turning) (m : Mover) (reply : ℕ) → TurnsInRange step m → IsTurnInRange (turning_next shape step m reply)
unfolding turning_next
turns_range shape turn.AtRest m reply range = tt
turns_range shape (turn.LoadsLimit form tail) m reply range = not_range _ m (moves_either _ (turn.LoadsClosed form reply) turn.AtRest tt tt)
turns_range shape (turn.LoadsClosed form limit) m reply range = not_range _ m (moves_either _ (turn.RaisesLimit limit) (frame_taken form (frame_end shape limit)) tt (taken_not form (frame_end shape limit)))
turns_range shape (turn.RaisesLimit limit) m reply range = tt
turns_range shape (turn.LoadsHead end) m reply range = not_range _ m (moves_either (nat_lt reply end) (turn.LoadsFlushed end) turn.AtRest tt tt)
turns_range shape (turn.LoadsFlushed end) m reply range = turn_either (nat_le end reply) (turn_at turn.Moves (move_begun Head end)) (turn_at turn.AtRest m) tt tt
turns_range shape turn.Moves m reply range = turn_led_range (move_next m reply) (move_next_ask m reply) (move_range m.step m.raising m.arming reply range)

pub turn_range : (shape : Shape) (s : TurnState) (reply : ℕ) → IsTurnInRange s → IsTurnInRange (turn_next shape s reply)
turn_range shape s reply range = turns_range shape s.step s.mover reply range
