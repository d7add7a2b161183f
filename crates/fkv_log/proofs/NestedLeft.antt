-- A machine with machines inside it asks for something exactly where asks are left to it, after each reply and as it begins, and each reply leaves fewer.
use Rattle.std.proofs.Common.{◌≡◌, ℕ, ◌+◌, ◌-◌, ◌*◌, ◌/◌, ◌<◌, ◌≤◌, ◌⊎◌, refl, inl, inr, sym, ◌∙◌, arith, Bool, true, false}
use Rattle.std.specs.Prelude.{◌↔◌, ◌==◌, nat_lt, nat_le, if◌then◌else◌}
use Rattle.std.proofs.lemmas.Bool.Decides.{nat_tests}
use Rattle.fkv_base.specs.Limits.{drain_slots, last_epoch}
use Rattle.fkv_base.specs.declared.shapes.Shape.{Shape}
use Rattle.fkv_plane.specs.declared.asks.Ask.{Ask}
use Rattle.fkv_plane.specs.declared.asks.Ask.TheVariants.{Done}
use Rattle.fkv_plane.specs.Passing.{is_done}
use Rattle.fkv_plane.proofs.Shown.{passed_done}
use Rattle.fkv_epoch.specs.declared.raising.Raising.{Raising}
use Rattle.fkv_epoch.specs.declared.raising.Raising.TheVariants as raise
use Rattle.fkv_epoch.specs.declared.arming.Arming.{Arming}
use Rattle.fkv_epoch.specs.declared.arming.Arming.TheVariants as arm
use Rattle.fkv_epoch.specs.Raising.{raise_ask, raise_next, raise_next_ask, raise_on, free_after, raise_asks_left, raise_asks_later}
use Rattle.fkv_epoch.specs.Arming.{arm_ask, arm_next, arm_asks_left}
use Rattle.fkv_epoch.proofs.Shown.{arm_fewer}
use Rattle.fkv_log.specs.declared.moving.MoveAnswer.{MoveAnswer}
use Rattle.fkv_log.specs.declared.moving.MoveAnswer.TheVariants as moved
use Rattle.fkv_log.specs.declared.moving.Offset.{Offset}
use Rattle.fkv_log.specs.declared.moving.Offset.TheVariants as offset
use Rattle.fkv_log.specs.declared.moving.Target.{Target}
use Rattle.fkv_log.specs.declared.moving.Moving.{Moving}
use Rattle.fkv_log.specs.declared.moving.Moving.TheVariants as move
use Rattle.fkv_log.specs.declared.shifting.ShiftAnswer.TheVariants as answer
use Rattle.fkv_log.specs.declared.shifting.Shifting.{Shifting}
use Rattle.fkv_log.specs.declared.shifting.Shifting.TheVariants as shift
use Rattle.fkv_log.specs.declared.turning.TurnForm.{TurnForm}
use Rattle.fkv_log.specs.declared.turning.TurnForm.TheVariants as form
use Rattle.fkv_log.specs.declared.turning.Turning.{Turning}
use Rattle.fkv_log.specs.declared.turning.Turning.TheVariants as turn
use Rattle.fkv_log.specs.Moving.{Mover, move_begun, move_ask, move_next, move_next_ask, moving_ask, moving_next, raise_led, arm_led, RaiseAsks, armed_within, moving_asks_left, move_asks_left, move_asks_most}
use Rattle.fkv_log.specs.Shifting.{ShiftState, shift_begun, shift_ask, shift_next, shifting_ask, shifting_next, shift_led, mutable_start, shifting_asks_left, shift_asks_left}
use Rattle.fkv_log.specs.Turning.{TurnState, turn_at, turn_begun, turn_ask, turn_next, turning_ask, turning_next, turn_led, pages_wanted, frame_end, frame_taken, asks_past_closed, turning_asks_left, turn_asks_left}
use Rattle.fkv_log.proofs.Asks.{truth, never, move_asks, shift_asks, turn_asks}
use Rattle.fkv_log.proofs.AsksLeft.{none}

-- what is at rest has no asks left, and so asks for nothing where none are left
exactly : (ends : Bool) (left : ℕ) → ((ends ≡ true) × (left ≡ 0)) ⊎ (ends ≡ false) → (ends ≡ false → 0 < left) → (ends ≡ false) ↔ (0 < left)
exactly ends left (inl rests) some = (some, λ h. let no : 0 < 0 = rw (← rests.1) h in none no)
exactly ends left (inr asks) some = (some, λ h. asks)

-- where a raise that asks leads the move
slot_free : (target : Target) (arming : Arming) (slot : ℕ) → move_asks_left (raise_led target (free_after slot) arming (raise_ask (free_after slot))) ≤ 2 * (drain_slots - (slot + 1)) + 4
unfolding raise_led raise_ask free_after moving_asks_left raise_asks_left raise_asks_later
slot_free target arming slot = tested (nat_lt (slot + 1) drain_slots) refl
  where
    tested : (b : Bool) → nat_lt (slot + 1) drain_slots ≡ b → move_asks_left (raise_led target (if b then raise.MeetsSlot (slot + 1) else raise.AtRest) arming (raise_ask (if b then raise.MeetsSlot (slot + 1) else raise.AtRest))) ≤ 2 * (drain_slots - (slot + 1)) + 4
    tested true e = let h : slot + 1 < drain_slots = grind (arith, nat_tests, e) in omega (arith, h)
    tested false e = omega arith

raise_led_left : (target : Target) (arming : Arming) (raising : Raising) (reply : ℕ) → is_done (raise_ask raising) ≡ false
    → move_asks_left (raise_led target (raise_next raising reply) arming (raise_next_ask raising reply)) ≤ armed_within raising - 1
unfolding raise_led raise_ask raise_next raise_next_ask raise_on arm_next moving_asks_left raise_asks_left raise_asks_later arm_asks_left
raise_led_left target arming raise.AtRest reply asks = never asks
raise_led_left target arming raise.LoadsEpoch reply asks = elim (truth (nat_le last_epoch reply)) [
  | inl e ↦ rw e (omega arith)
  | inr e ↦ rw e (omega arith)
]
raise_led_left target arming (raise.MeetsSlot slot) reply asks = elim (truth (reply == 0)) [
  | inl e ↦ rw e (omega arith)
  | inr e ↦ rw e (let free = slot_free target arming slot in omega (arith, free))
]
raise_led_left target arming (raise.HoldsSlot slot) reply asks = elim (truth (reply == 0)) [
  | inl e ↦ rw e (omega arith)
  | inr e ↦ rw e (let free = slot_free target arming slot in omega (arith, free))
]
raise_led_left target arming (raise.HasSlot slot) reply asks = never asks
raise_led_left target arming (raise.RaisesEpoch slot) reply asks = omega arith

raise_on_led_left : (target : Target) (arming : Arming) (raising : Raising) → move_asks_left (raise_led target (raise_on raising) arming (raise_ask (raise_on raising))) ≤ armed_within (raise_on raising)
unfolding raise_led raise_ask raise_on moving_asks_left raise_asks_left raise_asks_later
raise_on_led_left target arming raise.AtRest = omega arith
raise_on_led_left target arming step = omega arith

arm_led_left : (raising : Raising) (arming : Arming) (ask : Ask (Unit {0})) → move_asks_left (arm_led raising arming ask) ≤ arm_asks_left arming
unfolding arm_led moving_asks_left
arm_led_left raising arming (Done inner) = omega arith
arm_led_left raising arming ask = omega arith

pub moving_fewer : (step : Moving) (raising : Raising) (arming : Arming) (reply : ℕ) → RaiseAsks step raising
    → move_asks_left (moving_next step raising arming reply) ≤ moving_asks_left step raising arming - 1
unfolding moving_next moving_asks_left
moving_fewer move.AtRest raising arming reply asks = omega arith
moving_fewer (move.Raises target) raising arming reply asks = raise_led_left target arming raising reply asks
moving_fewer (move.MovesOffset target) raising arming reply asks = let led = raise_on_led_left target arming raising in omega (arith, led)
moving_fewer (move.Puts target slot) raising arming reply asks = let led = arm_led_left raising (arm_next arming) (arm_ask (arm_next arming)) in omega (arith, led)
moving_fewer move.Arms raising arming reply asks =
    let led = arm_led_left raising (arm_next arming) (arm_ask (arm_next arming)) in
    let fewer = arm_fewer arming in
    omega (arith, led, fewer)

arm_some : (arming : Arming) → is_done (arm_ask arming) ≡ false → 0 < arm_asks_left arming
unfolding arm_ask arm_asks_left
arm_some arm.AtRest asks = never asks
arm_some (arm.PutsAction slot epoch) asks = never asks
arm_some (arm.StoresEpoch slot epoch) asks = omega arith

moving_some : (step : Moving) (raising : Raising) (arming : Arming) → is_done (moving_ask step raising arming) ≡ false → RaiseAsks step raising × (0 < moving_asks_left step raising arming)
unfolding moving_ask moving_asks_left
moving_some move.AtRest raising arming asks = never asks
moving_some (move.Raises target) raising arming asks = (sym (passed_done (raise_ask raising) moved.Through) ∙ asks, omega arith)
moving_some (move.MovesOffset target) raising arming asks = (tt, omega arith)
moving_some (move.Puts target slot) raising arming asks = (tt, omega arith)
moving_some move.Arms raising arming asks = (tt, arm_some arming (sym (passed_done (arm_ask arming) moved.Through) ∙ asks))

-- where a move asks, a reply leaves fewer
pub move_fewer : (m : Mover) (reply : ℕ) → is_done (move_ask m) ≡ false → move_asks_left (move_next m reply) < move_asks_left m
move_fewer m reply asks =
    let some = moving_some m.step m.raising m.arming asks in
    let fewer = moving_fewer m.step m.raising m.arming reply some.0 in
    let left = some.1 in
    omega (arith, fewer, left)

moving_rests : (step : Moving) (raising : Raising) (arming : Arming) → step ≡ move.AtRest → (is_done (moving_ask step raising arming) ≡ true) × (moving_asks_left step raising arming ≡ 0)
unfolding moving_ask moving_asks_left
moving_rests step raising arming rests = rw rests (refl, refl)

-- after each reply
pub move_left : (m : Mover) (reply : ℕ) → (is_done (move_ask (move_next m reply)) ≡ false) ↔ (0 < move_asks_left (move_next m reply))
move_left m reply =
    let next = move_next m reply in
    exactly (is_done (move_ask next)) (move_asks_left next)
    (elim (move_asks m reply) [ inl rests ↦ inl (moving_rests next.step next.raising next.arming rests) | inr asks ↦ inr asks ])
    (λ asks. (moving_some next.step next.raising next.arming asks).1)

pub move_begun_left : (offset : Offset) (to : ℕ) → move_asks_left (move_begun offset to) ≡ move_asks_most
unfolding moving_asks_left raise_asks_left raise_asks_later
move_begun_left offset to = omega arith

shift_led_left : (tail : ℕ) (m : Mover) (ask : Ask MoveAnswer) → shift_asks_left (shift_led tail m ask) ≤ move_asks_left m
unfolding shift_led shifting_asks_left
shift_led_left tail m (Done inner) = omega arith
shift_led_left tail m ask = omega arith

shifting_fewer : (shape : Shape) (step : Shifting) (m : Mover) (reply : ℕ) → is_done (shifting_ask step m) ≡ false → shift_asks_left (shifting_next shape step m reply) < shifting_asks_left step m
unfolding shifting_ask shifting_next shifting_asks_left
shifting_fewer shape shift.AtRest m reply asks = never asks
shifting_fewer shape shift.LoadsTail m reply asks = omega arith
shifting_fewer shape (shift.LoadsReadOnly tail) m reply asks = elim (truth (nat_lt reply (mutable_start shape.page shape.mutable tail))) [
  | inl e ↦ rw e (let begun = move_begun_left offset.ReadOnly (mutable_start shape.page shape.mutable tail) in omega (arith, begun))
  | inr e ↦ rw e (omega arith)
]
shifting_fewer shape (shift.Moves tail) m reply asks =
    let led = shift_led_left tail (move_next m reply) (move_next_ask m reply) in
    let fewer = move_fewer m reply (sym (passed_done (move_ask m) (answer.Through (record { 0 = tail }))) ∙ asks) in
    omega (arith, led, fewer)

pub shift_fewer : (shape : Shape) (s : ShiftState) (reply : ℕ) → is_done (shift_ask s) ≡ false → shift_asks_left (shift_next shape s reply) < shift_asks_left s
shift_fewer shape s reply asks = shifting_fewer shape s.step s.mover reply asks

shifting_some : (step : Shifting) (m : Mover) → is_done (shifting_ask step m) ≡ false → 0 < shifting_asks_left step m
unfolding shifting_ask shifting_asks_left
shifting_some shift.AtRest m asks = never asks
shifting_some shift.LoadsTail m asks = omega arith
shifting_some (shift.LoadsReadOnly tail) m asks = omega arith
shifting_some (shift.Moves tail) m asks = (moving_some m.step m.raising m.arming (sym (passed_done (move_ask m) (answer.Through (record { 0 = tail }))) ∙ asks)).1

shifting_rests : (step : Shifting) (m : Mover) → step ≡ shift.AtRest → (is_done (shifting_ask step m) ≡ true) × (shifting_asks_left step m ≡ 0)
unfolding shifting_ask shifting_asks_left
shifting_rests step m rests = rw rests (refl, refl)

pub shift_left : (shape : Shape) (s : ShiftState) (reply : ℕ) → (is_done (shift_ask (shift_next shape s reply)) ≡ false) ↔ (0 < shift_asks_left (shift_next shape s reply))
shift_left shape s reply =
    let next = shift_next shape s reply in
    exactly (is_done (shift_ask next)) (shift_asks_left next)
    (elim (shift_asks shape s reply) [ inl rests ↦ inl (shifting_rests next.step next.mover rests) | inr asks ↦ inr asks ])
    (λ asks. shifting_some next.step next.mover asks)

pub shift_begun_left : shift_asks_left shift_begun ≡ move_asks_most + 2
unfolding shifting_asks_left
shift_begun_left = refl

turn_led_left : (m : Mover) (ask : Ask MoveAnswer) → turn_asks_left (turn_led m ask) ≤ move_asks_left m
unfolding turn_led turning_asks_left
turn_led_left m (Done inner) = omega arith
turn_led_left m ask = omega arith

frame_taken_left : (form : TurnForm) (end : ℕ) (m : Mover) → turn_asks_left (turn_at (frame_taken form end) m) ≤ asks_past_closed form
unfolding turning_asks_left
frame_taken_left form.Whole end m = omega arith
frame_taken_left form.OpensOnly end m = omega arith

some_past_closed : (form : TurnForm) → 0 < asks_past_closed form
some_past_closed form.Whole = omega arith
some_past_closed form.OpensOnly = omega arith

turning_fewer : (shape : Shape) (step : Turning) (m : Mover) (reply : ℕ) → is_done (turning_ask shape step m) ≡ false → turn_asks_left (turning_next shape step m reply) < turning_asks_left step m
unfolding turning_ask turning_next turning_asks_left
turning_fewer shape turn.AtRest m reply asks = never asks
turning_fewer shape (turn.LoadsLimit form tail) m reply asks = elim (truth (nat_lt (reply / shape.page) (pages_wanted shape tail))) [
  | inl e ↦ rw e (omega arith)
  | inr e ↦ rw e (omega arith)
]
turning_fewer shape (turn.LoadsClosed form limit) m reply asks = elim (truth (nat_le (frame_end shape limit) reply)) [
  | inl e ↦ rw e (let some = some_past_closed form in omega (arith, some))
  | inr e ↦ rw e (let taken = frame_taken_left form (frame_end shape limit) m in omega (arith, taken))
]
turning_fewer shape (turn.RaisesLimit limit) m reply asks = omega arith
turning_fewer shape (turn.LoadsHead end) m reply asks = elim (truth (nat_lt reply end)) [
  | inl e ↦ rw e (omega arith)
  | inr e ↦ rw e (omega arith)
]
turning_fewer shape (turn.LoadsFlushed end) m reply asks = elim (truth (nat_le end reply)) [
  | inl e ↦ rw e (let begun = move_begun_left offset.Head end in omega (arith, begun))
  | inr e ↦ rw e (omega arith)
]
turning_fewer shape turn.Moves m reply asks =
    let led = turn_led_left (move_next m reply) (move_next_ask m reply) in
    let fewer = move_fewer m reply (sym (passed_done (move_ask m) moved.Through) ∙ asks) in
    omega (arith, led, fewer)

pub turn_fewer : (shape : Shape) (s : TurnState) (reply : ℕ) → is_done (turn_ask shape s) ≡ false → turn_asks_left (turn_next shape s reply) < turn_asks_left s
turn_fewer shape s reply asks = turning_fewer shape s.step s.mover reply asks

turning_some : (shape : Shape) (step : Turning) (m : Mover) → is_done (turning_ask shape step m) ≡ false → 0 < turning_asks_left step m
unfolding turning_ask turning_asks_left
turning_some shape turn.AtRest m asks = never asks
turning_some shape turn.Moves m asks = (moving_some m.step m.raising m.arming (sym (passed_done (move_ask m) moved.Through) ∙ asks)).1
turning_some shape step m asks = omega arith

turning_rests : (shape : Shape) (step : Turning) (m : Mover) → step ≡ turn.AtRest → (is_done (turning_ask shape step m) ≡ true) × (turning_asks_left step m ≡ 0)
unfolding turning_ask turning_asks_left
turning_rests shape step m rests = rw rests (refl, refl)

pub turn_left : (shape : Shape) (s : TurnState) (reply : ℕ) → (is_done (turn_ask shape (turn_next shape s reply)) ≡ false) ↔ (0 < turn_asks_left (turn_next shape s reply))
turn_left shape s reply =
    let next = turn_next shape s reply in
    exactly (is_done (turn_ask shape next)) (turn_asks_left next)
    (elim (turn_asks shape s reply) [ inl rests ↦ inl (turning_rests shape next.step next.mover rests) | inr asks ↦ inr asks ])
    (λ asks. turning_some shape next.step next.mover asks)

pub turn_begun_left : (form : TurnForm) (tail : ℕ) → turn_asks_left (turn_begun form tail) ≡ asks_past_closed form + 2
unfolding turning_asks_left
turn_begun_left form tail = refl
