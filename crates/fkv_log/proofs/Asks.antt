-- A machine is at rest, or it asks for something; and what it asks next, short of its end, is what the state asks that it comes to. A load that
-- has header and key pauses besides.
use Rattle.std.proofs.Common.{◌≡◌, ℕ, ◌<◌, ◌≤◌, ◌⊎◌, ◌/◌, refl, arith, sym, inl, inr, ◌∙◌, ap, Bool, true, false}
use Rattle.std.specs.Prelude.{nat_lt, nat_le, if◌then◌else◌, Option, Some, None}
use Rattle.std.proofs.lemmas.Bool.Decides.{nat_tests}
use Rattle.fkv_base.specs.Limits.{last_epoch}
use Rattle.fkv_base.specs.declared.numbers.Addr.{Addr}
use Rattle.fkv_base.specs.declared.shapes.Shape.{Shape}
use Rattle.fkv_plane.specs.declared.asks.Ask.{Ask}
use Rattle.fkv_plane.specs.declared.asks.Ask.TheVariants.{Done}
use Rattle.fkv_plane.specs.declared.places.Places.{Places}
use Rattle.fkv_plane.specs.Passing.{passed, is_done}
use Rattle.fkv_plane.proofs.Shown.{passed_done}
use Rattle.fkv_epoch.specs.declared.raising.RaiseAnswer.{RaiseAnswer}
use Rattle.fkv_epoch.specs.declared.raising.RaiseAnswer.TheVariants as raised
use Rattle.fkv_epoch.specs.declared.raising.Raising.{Raising}
use Rattle.fkv_epoch.specs.declared.raising.Raising.TheVariants as raise
use Rattle.fkv_epoch.specs.declared.arming.Arming.{Arming}
use Rattle.fkv_epoch.specs.Raising.{raise_ask, raise_next, raise_next_ask, raise_on}
use Rattle.fkv_epoch.specs.Arming.{arm_ask, arm_next}
use Rattle.fkv_log.specs.declared.reserving.Reserving.{Reserving}
use Rattle.fkv_log.specs.declared.reserving.Reserving.TheVariants as reserve
use Rattle.fkv_log.specs.declared.filling.Filling.{Filling}
use Rattle.fkv_log.specs.declared.filling.Filling.TheVariants as fill
use Rattle.fkv_log.specs.declared.invalidating.Invalidating.{Invalidating}
use Rattle.fkv_log.specs.declared.invalidating.Invalidating.TheVariants as invalidate
use Rattle.fkv_log.specs.declared.loading.Loading.{Loading}
use Rattle.fkv_log.specs.declared.loading.Loading.TheVariants as load
use Rattle.fkv_log.specs.declared.moving.MoveAnswer.{MoveAnswer}
use Rattle.fkv_log.specs.declared.moving.MoveAnswer.TheVariants as moved
use Rattle.fkv_log.specs.declared.moving.Offset.{Offset}
use Rattle.fkv_log.specs.declared.moving.Target.{Target}
use Rattle.fkv_log.specs.declared.moving.Moving.{Moving}
use Rattle.fkv_log.specs.declared.moving.Moving.TheVariants as move
use Rattle.fkv_log.specs.declared.shifting.ShiftAnswer.TheVariants as answer
use Rattle.fkv_log.specs.declared.shifting.Shifting.{Shifting}
use Rattle.fkv_log.specs.declared.shifting.Shifting.TheVariants as shift
use Rattle.fkv_log.specs.declared.turning.TurnForm.{TurnForm}
use Rattle.fkv_log.specs.declared.turning.TurnForm.TheVariants as form
use Rattle.fkv_log.specs.declared.turning.Turning.{Turning}
use Rattle.fkv_log.specs.declared.turning.Turning.TheVariants as turn
use Rattle.fkv_log.specs.Reserving.{reserve_ask, limit_within}
use Rattle.fkv_log.specs.Filling.{fill_ask}
use Rattle.fkv_log.specs.Invalidating.{invalidate_ask}
use Rattle.fkv_log.specs.Loading.{load_ask}
use Rattle.fkv_log.specs.Moving.{Mover, move_begun, move_ask, move_next, move_next_ask, moving_ask, moving_next, moving_next_ask, raise_led, raise_told, arm_led}
use Rattle.fkv_log.specs.Shifting.{ShiftState, shift_begun, shift_ask, shift_next, shift_next_ask, shifting_ask, shifting_next, shifting_next_ask, shift_led, move_told, mutable_start}
use Rattle.fkv_log.specs.Turning.{TurnState, turn_at, turn_begun, turn_ask, turn_next, turn_next_ask, turning_ask, turning_next, turning_next_ask, turn_led, turn_told, pages_wanted, frame_end, frame_taken}

-- a test is met or not
pub truth : (b : Bool) → (b ≡ true) ⊎ (b ≡ false)
truth true = inl refl
truth false = inr refl

pub never : {X : Type 0} → true ≡ false → X
never e = cc

pub reserve_asks : (step : Reserving) → (step ≡ reserve.AtRest) ⊎ (is_done (reserve_ask step) ≡ false)
unfolding reserve_ask
reserve_asks reserve.AtRest = inl refl
reserve_asks step = inr refl

-- a bound never raises the limit
pub within_low : (bound : Option ℕ) (limit : ℕ) → limit_within bound limit ≤ limit
within_low None limit = omega arith
within_low (Some bound) limit = tested (nat_lt bound limit) refl
  where
    tested : (b : Bool) → nat_lt bound limit ≡ b → (if b then bound else limit) ≤ limit
    tested true e = let low : bound < limit = grind (arith, nat_tests, e) in omega (arith, low)
    tested false e = omega arith

pub fill_asks : (places : Places) (step : Filling) → (step ≡ fill.AtRest) ⊎ (is_done (fill_ask places step) ≡ false)
unfolding fill_ask
fill_asks places fill.AtRest = inl refl
fill_asks places step = inr refl

pub invalidate_asks : (places : Places) (step : Invalidating) → (step ≡ invalidate.AtRest) ⊎ (is_done (invalidate_ask places step) ≡ false)
unfolding invalidate_ask
invalidate_asks places invalidate.AtRest = inl refl
invalidate_asks places step = inr refl

-- a load that has header and key waits for its actor
pub load_asks : (places : Places) (step : Loading) → ((step ≡ load.AtRest) ⊎ ((addr : Addr) × (header : ℕ) × (key : ℕ) × (step ≡ load.HasKey addr header key))) ⊎ (is_done (load_ask places step) ≡ false)
unfolding load_ask
load_asks places load.AtRest = inl (inl refl)
load_asks places (load.HasKey addr header key) = inl (inr (addr, header, key, refl))
load_asks places step = inr refl

-- a raise that is under way asks what its state asks
raise_goes_on : (step : Raising) (reply : ℕ) → is_done (raise_next_ask step reply) ≡ false → raise_next_ask step reply ≡ raise_ask (raise_next step reply)
unfolding raise_next_ask raise_next raise_ask
raise_goes_on raise.LoadsEpoch reply h = elim (truth (nat_le last_epoch reply)) [
  | inl e ↦ never (rw e at h)
  | inr e ↦ rw e refl
]
raise_goes_on (raise.RaisesEpoch slot) reply h = cc
raise_goes_on step reply h = refl

abbrev MoveRestsOrAsks : Mover → Type 0
MoveRestsOrAsks m = (m.step ≡ move.AtRest) ⊎ (is_done (move_ask m) ≡ false)

raise_led_asks : (target : Target) (raising : Raising) (arming : Arming) (ask : Ask RaiseAnswer) → (is_done ask ≡ false → ask ≡ raise_ask raising) → MoveRestsOrAsks (raise_led target raising arming ask)
unfolding raise_led moving_ask
raise_led_asks target raising arming (Done (raised.HasSlot slot)) h = inr refl
raise_led_asks target raising arming (Done raised.NoSlot) h = inl refl
raise_led_asks target raising arming (Done raised.Spent) h = inl refl
raise_led_asks target raising arming (Done (raised.Raised slot epoch)) h = inr refl
raise_led_asks target raising arming ask h = inr (passed_done (raise_ask raising) moved.Through ∙ ap is_done (sym (h refl)))

arm_led_asks : (raising : Raising) (arming : Arming) (ask : Ask (Unit {0})) → ask ≡ arm_ask arming → MoveRestsOrAsks (arm_led raising arming ask)
unfolding arm_led moving_ask
arm_led_asks raising arming (Done inner) h = inl refl
arm_led_asks raising arming ask h = inr (passed_done (arm_ask arming) moved.Through ∙ ap is_done (sym h))

moving_asks : (step : Moving) (raising : Raising) (arming : Arming) (reply : ℕ) → MoveRestsOrAsks (moving_next step raising arming reply)
unfolding moving_next
moving_asks move.AtRest raising arming reply = inl refl
moving_asks (move.Raises target) raising arming reply = raise_led_asks target (raise_next raising reply) arming (raise_next_ask raising reply) (raise_goes_on raising reply)
moving_asks (move.MovesOffset target) raising arming reply = raise_led_asks target (raise_on raising) arming (raise_ask (raise_on raising)) (λ h. refl)
moving_asks (move.Puts target slot) raising arming reply = arm_led_asks raising (arm_next arming) (arm_ask (arm_next arming)) refl
moving_asks move.Arms raising arming reply = arm_led_asks raising (arm_next arming) (arm_ask (arm_next arming)) refl

-- after each reply a move is at rest, or it asks
pub move_asks : (m : Mover) (reply : ℕ) → ((move_next m reply).step ≡ move.AtRest) ⊎ (is_done (move_ask (move_next m reply)) ≡ false)
move_asks m reply = moving_asks m.step m.raising m.arming reply

-- as it begins it asks
pub move_begun_asks : (offset : Offset) (to : ℕ) → is_done (move_ask (move_begun offset to)) ≡ false
unfolding moving_ask passed raise_ask
move_begun_asks offset to = refl

told_goes_on : (ask : Ask RaiseAnswer) (m : Mover) → is_done (raise_told ask m) ≡ false → raise_told ask m ≡ move_ask m
unfolding raise_told
told_goes_on (Done raised.NoSlot) m h = cc
told_goes_on (Done raised.Spent) m h = cc
told_goes_on (Done (raised.HasSlot slot)) m h = refl
told_goes_on (Done (raised.Raised slot epoch)) m h = refl
told_goes_on ask m h = refl

moving_goes_on : (step : Moving) (raising : Raising) (arming : Arming) (reply : ℕ) → is_done (moving_next_ask step raising arming reply) ≡ false → moving_next_ask step raising arming reply ≡ move_ask (moving_next step raising arming reply)
unfolding moving_next_ask
moving_goes_on (move.Raises target) raising arming reply h = told_goes_on (raise_next_ask raising reply) (moving_next (move.Raises target) raising arming reply) h
moving_goes_on (move.MovesOffset target) raising arming reply h = told_goes_on (raise_ask (raise_on raising)) (moving_next (move.MovesOffset target) raising arming reply) h
moving_goes_on step raising arming reply h = refl

-- short of its end a move asks what its state asks
pub move_goes_on : (m : Mover) (reply : ℕ) → is_done (move_next_ask m reply) ≡ false → move_next_ask m reply ≡ move_ask (move_next m reply)
move_goes_on m reply h = moving_goes_on m.step m.raising m.arming reply h

abbrev ShiftRestsOrAsks : ShiftState → Type 0
ShiftRestsOrAsks s = (s.step ≡ shift.AtRest) ⊎ (is_done (shift_ask s) ≡ false)

shift_led_asks : (tail : ℕ) (m : Mover) (ask : Ask MoveAnswer) → (is_done ask ≡ false → ask ≡ move_ask m) → ShiftRestsOrAsks (shift_led tail m ask)
unfolding shift_led shifting_ask
shift_led_asks tail m (Done inner) h = inl refl
shift_led_asks tail m ask h = inr (passed_done (move_ask m) (answer.Through (record { 0 = tail })) ∙ ap is_done (sym (h refl)))

shifting_asks : (shape : Shape) (step : Shifting) (m : Mover) (reply : ℕ) → ShiftRestsOrAsks (shifting_next shape step m reply)
unfolding shifting_next shifting_ask passed moving_ask raise_ask
shifting_asks shape shift.AtRest m reply = inl refl
shifting_asks shape shift.LoadsTail m reply = inr refl
shifting_asks shape (shift.LoadsReadOnly tail) m reply = elim (truth (nat_lt reply (mutable_start shape.page shape.mutable tail))) [
  | inl e ↦ rw e (inr refl)
  | inr e ↦ rw e (inl refl)
]
shifting_asks shape (shift.Moves tail) m reply = shift_led_asks tail (move_next m reply) (move_next_ask m reply) (move_goes_on m reply)

-- after each reply a shift is at rest, or it asks
pub shift_asks : (shape : Shape) (s : ShiftState) (reply : ℕ) → ((shift_next shape s reply).step ≡ shift.AtRest) ⊎ (is_done (shift_ask (shift_next shape s reply)) ≡ false)
shift_asks shape s reply = shifting_asks shape s.step s.mover reply

-- as it begins it asks
pub shift_begun_asks : is_done (shift_ask shift_begun) ≡ false
unfolding shifting_ask
shift_begun_asks = refl

move_told_goes_on : (tail : ℕ) (ask : Ask MoveAnswer) (s : ShiftState) → is_done (move_told tail ask s) ≡ false → move_told tail ask s ≡ shift_ask s
unfolding move_told
move_told_goes_on tail (Done inner) s h = cc
move_told_goes_on tail ask s h = refl

shifting_goes_on : (shape : Shape) (step : Shifting) (m : Mover) (reply : ℕ) → is_done (shifting_next_ask shape step m reply) ≡ false → shifting_next_ask shape step m reply ≡ shift_ask (shifting_next shape step m reply)
unfolding shifting_next_ask shifting_next
shifting_goes_on shape (shift.LoadsReadOnly tail) m reply h = elim (truth (nat_lt reply (mutable_start shape.page shape.mutable tail))) [
  | inl e ↦ rw e refl
  | inr e ↦ never (rw e at h)
]
shifting_goes_on shape (shift.Moves tail) m reply h = move_told_goes_on tail (move_next_ask m reply) (shifting_next shape (shift.Moves tail) m reply) h
shifting_goes_on shape step m reply h = refl

-- short of its end a shift asks what its state asks
pub shift_goes_on : (shape : Shape) (s : ShiftState) (reply : ℕ) → is_done (shift_next_ask shape s reply) ≡ false → shift_next_ask shape s reply ≡ shift_ask (shift_next shape s reply)
shift_goes_on shape s reply h = shifting_goes_on shape s.step s.mover reply h

abbrev TurnRestsOrAsks : Shape → TurnState → Type 0
TurnRestsOrAsks shape s = (s.step ≡ turn.AtRest) ⊎ (is_done (turn_ask shape s) ≡ false)

turn_led_asks : (shape : Shape) (m : Mover) (ask : Ask MoveAnswer) → (is_done ask ≡ false → ask ≡ move_ask m) → TurnRestsOrAsks shape (turn_led m ask)
unfolding turn_led turning_ask
turn_led_asks shape m (Done inner) h = inl refl
turn_led_asks shape m ask h = inr (passed_done (move_ask m) moved.Through ∙ ap is_done (sym (h refl)))

frame_taken_asks : (shape : Shape) (form : TurnForm) (end : ℕ) (m : Mover) → TurnRestsOrAsks shape (turn_at (frame_taken form end) m)
unfolding turning_ask
frame_taken_asks shape form.Whole end m = inr refl
frame_taken_asks shape form.OpensOnly end m = inl refl

turning_asks : (shape : Shape) (step : Turning) (m : Mover) (reply : ℕ) → TurnRestsOrAsks shape (turning_next shape step m reply)
unfolding turning_next turning_ask passed moving_ask raise_ask
turning_asks shape turn.AtRest m reply = inl refl
turning_asks shape (turn.LoadsLimit form tail) m reply = elim (truth (nat_lt (reply / shape.page) (pages_wanted shape tail))) [
  | inl e ↦ rw e (inr refl)
  | inr e ↦ rw e (inl refl)
]
turning_asks shape (turn.LoadsClosed form limit) m reply = elim (truth (nat_le (frame_end shape limit) reply)) [
  | inl e ↦ rw e (inr refl)
  | inr e ↦ rw e (frame_taken_asks shape form (frame_end shape limit) m)
]
turning_asks shape (turn.RaisesLimit limit) m reply = inl refl
turning_asks shape (turn.LoadsHead end) m reply = elim (truth (nat_lt reply end)) [
  | inl e ↦ rw e (inr refl)
  | inr e ↦ rw e (inl refl)
]
turning_asks shape (turn.LoadsFlushed end) m reply = elim (truth (nat_le end reply)) [
  | inl e ↦ rw e (inr refl)
  | inr e ↦ rw e (inl refl)
]
turning_asks shape turn.Moves m reply = turn_led_asks shape (move_next m reply) (move_next_ask m reply) (move_goes_on m reply)

-- after each reply a turn is at rest, or it asks
pub turn_asks : (shape : Shape) (s : TurnState) (reply : ℕ) → ((turn_next shape s reply).step ≡ turn.AtRest) ⊎ (is_done (turn_ask shape (turn_next shape s reply)) ≡ false)
turn_asks shape s reply = turning_asks shape s.step s.mover reply

-- as it begins it asks
pub turn_begun_asks : (shape : Shape) (form : TurnForm) (tail : ℕ) → is_done (turn_ask shape (turn_begun form tail)) ≡ false
unfolding turning_ask
turn_begun_asks shape form tail = refl

turn_told_goes_on : (shape : Shape) (ask : Ask MoveAnswer) (s : TurnState) → is_done (turn_told shape ask s) ≡ false → turn_told shape ask s ≡ turn_ask shape s
unfolding turn_told
turn_told_goes_on shape (Done inner) s h = cc
turn_told_goes_on shape ask s h = refl

turning_goes_on : (shape : Shape) (step : Turning) (m : Mover) (reply : ℕ) → is_done (turning_next_ask shape step m reply) ≡ false → turning_next_ask shape step m reply ≡ turn_ask shape (turning_next shape step m reply)
unfolding turning_next_ask
turning_goes_on shape turn.Moves m reply h = turn_told_goes_on shape (move_next_ask m reply) (turning_next shape turn.Moves m reply) h
turning_goes_on shape step m reply h = refl

-- short of its end a turn asks what its state asks
pub turn_goes_on : (shape : Shape) (s : TurnState) (reply : ℕ) → is_done (turn_next_ask shape s reply) ≡ false → turn_next_ask shape s reply ≡ turn_ask shape (turn_next shape s reply)
turn_goes_on shape s reply h = turning_goes_on shape s.step s.mover reply h
