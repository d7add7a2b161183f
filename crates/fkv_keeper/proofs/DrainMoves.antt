-- What the shift of the read-only offset and the turn of a page have met of the drain slots, as the move inside them seeks one.
use Rattle.std.proofs.Common.{◌≡◌, ℕ, refl, sym, subst, ◌⊎◌, inl, inr, List, Bool, true, false}
use Rattle.std.specs.Prelude.{⊤, nat_lt, nat_le, ◌/◌, if◌then◌else◌}
use Rattle.fkv_base.specs.Limits.{drain_slots}
use Rattle.fkv_base.specs.declared.numbers.Addr.{Addr}
use Rattle.fkv_base.specs.declared.shapes.Shape.{Shape}
use Rattle.fkv_plane.specs.declared.asks.Ask.{Ask}
use Rattle.fkv_plane.specs.declared.asks.Ask.TheVariants.{Done}
use Rattle.fkv_plane.specs.Passing.{passed, is_done}
use Rattle.fkv_epoch.specs.declared.arming.Arming.{Arming}
use Rattle.fkv_epoch.specs.declared.raising.RaiseAnswer.{RaiseAnswer}
use Rattle.fkv_epoch.specs.declared.raising.RaiseAnswer.TheVariants as raised
use Rattle.fkv_epoch.specs.declared.raising.Raising.{Raising}
use Rattle.fkv_epoch.specs.declared.raising.Raising.TheVariants as raise
use Rattle.fkv_epoch.specs.Raising.{raise_ask, raise_next, raise_next_ask, raise_on}
use Rattle.fkv_epoch.specs.Arming.{arm_ask, arm_next}
use Rattle.fkv_log.specs.declared.moving.MoveAnswer.{MoveAnswer}
use Rattle.fkv_log.specs.declared.moving.MoveAnswer.TheVariants as moved
use Rattle.fkv_log.specs.declared.moving.Moving.{Moving}
use Rattle.fkv_log.specs.declared.moving.Moving.TheVariants as move
use Rattle.fkv_log.specs.declared.moving.Offset.TheVariants.{ReadOnly, Head}
use Rattle.fkv_log.specs.declared.moving.Target.{Target}
use Rattle.fkv_log.specs.declared.shifting.ShiftAnswer.{ShiftAnswer}
use Rattle.fkv_log.specs.declared.shifting.ShiftAnswer.TheVariants as shift
use Rattle.fkv_log.specs.declared.shifting.Shifting.{Shifting}
use Rattle.fkv_log.specs.declared.shifting.Shifting.TheVariants as shifts
use Rattle.fkv_log.specs.declared.turning.TurnForm.{TurnForm}
use Rattle.fkv_log.specs.declared.turning.TurnForm.TheVariants.{Whole, OpensOnly}
use Rattle.fkv_log.specs.declared.turning.Turning.{Turning}
use Rattle.fkv_log.specs.declared.turning.Turning.TheVariants as turns
use Rattle.fkv_log.specs.Moving.{Mover, move_begun, moving_ask, move_ask, raise_led, arm_led, moving_next, move_next, raise_told, moving_next_ask, move_next_ask}
use Rattle.fkv_log.specs.Shifting.{ShiftState, shift_at, mutable_start, shifting_ask, shift_ask, shift_led, shifting_next, shift_next, move_told, shifting_next_ask, shift_next_ask}
use Rattle.fkv_log.specs.Turning.{TurnState, turn_at, pages_wanted, frame_end, turning_ask, turn_ask, frame_taken, turn_led, turning_next, turn_next, turn_told, turning_next_ask, turn_next_ask}
use Rattle.fkv_commit.specs.Exchanges.{Exchange, exchanged}
use Rattle.fkv_keeper.specs.DrainLaws.{WereSought}
use Rattle.fkv_keeper.proofs.DrainSought.{passed_told, passed_alone, IsSought, RaiseOutcome, GoesOn, GetsSlot, GetsNone, IsLast, raise_step}

-- a slot is sought, or the epoch is about to be raised with one in hand
abbrev pub MoveKnows : Moving → Raising → List Exchange → Type 0
MoveKnows (move.Raises target) raising told = IsSought raising told ⊎ ((slot : ℕ) × (raising ≡ raise.RaisesEpoch slot))
MoveKnows (move.MovesOffset target) raising told = (slot : ℕ) × (raising ≡ raise.HasSlot slot)
MoveKnows step raising told = ⊤

pub record MoveOutcome (m : Mover) (ask : Ask MoveAnswer) (told : List Exchange) : Type 0 where
  pub knows : is_done ask ≡ false → MoveKnows m.step m.raising told
  pub none : ask ≡ Done moved.NoSlot → WereSought drain_slots told

-- by what the raise asks next
raise_knows : (target : Target) (next : Raising) (arming : Arming) (ask : Ask RaiseAnswer) (told : List Exchange) → RaiseOutcome next ask told
    → MoveOutcome (raise_led target next arming ask) (raise_told ask (raise_led target next arming ask)) told
unfolding raise_led raise_told moving_ask
raise_knows target next arming (Done (raised.HasSlot slot)) told (GoesOn on sought) = cc
raise_knows target next arming (Done (raised.HasSlot slot)) told (GetsSlot its asks at) = record { knows = λ on. (its, at); none = λ e. cc }
raise_knows target next arming (Done (raised.HasSlot slot)) told (GetsNone asks sought) = cc
raise_knows target next arming (Done (raised.HasSlot slot)) told (IsLast asks) = cc
raise_knows target next arming (Done raised.NoSlot) told (GoesOn on sought) = cc
raise_knows target next arming (Done raised.NoSlot) told (GetsSlot its asks at) = cc
raise_knows target next arming (Done raised.NoSlot) told (GetsNone asks sought) = record { knows = λ on. cc; none = λ e. sought }
raise_knows target next arming (Done raised.NoSlot) told (IsLast asks) = cc
raise_knows target next arming (Done raised.Spent) told (GoesOn on sought) = cc
raise_knows target next arming (Done raised.Spent) told (GetsSlot its asks at) = cc
raise_knows target next arming (Done raised.Spent) told (GetsNone asks sought) = cc
raise_knows target next arming (Done raised.Spent) told (IsLast asks) = record { knows = λ on. cc; none = λ e. cc }
raise_knows target next arming (Done (raised.Raised slot epoch)) told (GoesOn on sought) = cc
raise_knows target next arming (Done (raised.Raised slot epoch)) told (GetsSlot its asks at) = cc
raise_knows target next arming (Done (raised.Raised slot epoch)) told (GetsNone asks sought) = cc
raise_knows target next arming (Done (raised.Raised slot epoch)) told (IsLast asks) = cc
raise_knows target next arming ask told (GoesOn on sought) = record {
  knows = λ e. inl sought;
  none = λ e. let clash : moved.Through ≡ moved.NoSlot = passed_alone (raise_ask next) moved.Through moved.NoSlot e in cc;
}
raise_knows target next arming ask told (GetsSlot its asks at) = cc
raise_knows target next arming ask told (GetsNone asks sought) = cc
raise_knows target next arming ask told (IsLast asks) = cc

-- once the epoch is raised no slot is sought
raised_knows : (target : Target) (slot : ℕ) (arming : Arming) (told : List Exchange) (reply : ℕ)
    → MoveOutcome (moving_next (move.Raises target) (raise.RaisesEpoch slot) arming reply) (moving_next_ask (move.Raises target) (raise.RaisesEpoch slot) arming reply) told
unfolding moving_next moving_next_ask raise_next raise_next_ask raise_led raise_told moving_ask
raised_knows target slot arming told reply = record { knows = λ on. tt; none = λ e. cc }

offset_knows : (target : Target) (slot : ℕ) (arming : Arming) (told : List Exchange) (reply : ℕ)
    → MoveOutcome (moving_next (move.MovesOffset target) (raise.HasSlot slot) arming reply) (moving_next_ask (move.MovesOffset target) (raise.HasSlot slot) arming reply) told
unfolding moving_next moving_next_ask raise_on raise_ask raise_led raise_told moving_ask passed
offset_knows target slot arming told reply = record { knows = λ on. inr (slot, refl); none = λ e. cc }

arm_knows : (raising : Raising) (arming : Arming) (ask : Ask (Unit {0})) (told : List Exchange) → MoveOutcome (arm_led raising arming ask) (move_ask (arm_led raising arming ask)) told
unfolding arm_led moving_ask
arm_knows raising arming (Done its) told = record { knows = λ on. tt; none = λ e. cc }
arm_knows raising arming ask told = record { knows = λ on. tt; none = λ e. let clash : moved.Through ≡ moved.NoSlot = passed_alone (arm_ask arming) moved.Through moved.NoSlot e in cc }

-- one reply to a move
move_at : (step : Moving) (raising : Raising) (arming : Arming) (told : List Exchange) (reply : ℕ) → MoveKnows step raising told
    → MoveOutcome (moving_next step raising arming reply) (moving_next_ask step raising arming reply) (exchanged (moving_ask step raising arming) reply told)
unfolding moving_next moving_next_ask moving_ask
move_at move.AtRest raising arming told reply knows = record { knows = λ on. tt; none = λ e. cc }
move_at (move.Raises target) raising arming told reply (inl sought) =
    subst (λ (x : List Exchange). MoveOutcome (raise_led target (raise_next raising reply) arming (raise_next_ask raising reply)) (raise_told (raise_next_ask raising reply) (raise_led target (raise_next raising reply) arming (raise_next_ask raising reply))) x)
    (sym (passed_told (raise_ask raising) moved.Through reply told))
    (raise_knows target (raise_next raising reply) arming (raise_next_ask raising reply) (exchanged (raise_ask raising) reply told) (raise_step raising told reply sought))
move_at (move.Raises target) raising arming told reply (inr (slot, e)) = rw e (raised_knows target slot arming _ reply)
move_at (move.MovesOffset target) raising arming told reply (slot, e) = rw e (offset_knows target slot arming _ reply)
move_at (move.Puts target slot) raising arming told reply knows = arm_knows raising (arm_next arming) (arm_ask (arm_next arming)) _
move_at move.Arms raising arming told reply knows = arm_knows raising (arm_next arming) (arm_ask (arm_next arming)) _

move_step : (m : Mover) (told : List Exchange) (reply : ℕ) → MoveKnows m.step m.raising told → MoveOutcome (move_next m reply) (move_next_ask m reply) (exchanged (move_ask m) reply told)
move_step m told reply knows = move_at m.step m.raising m.arming told reply knows

-- a shift
abbrev pub ShiftKnows : Shifting → Mover → List Exchange → Type 0
ShiftKnows (shifts.Moves tail) m told = MoveKnows m.step m.raising told
ShiftKnows step m told = ⊤

pub record ShiftOutcome (s : ShiftState) (ask : Ask ShiftAnswer) (told : List Exchange) : Type 0 where
  pub knows : is_done ask ≡ false → ShiftKnows s.step s.mover told
  pub none : (tail : Addr) → ask ≡ Done (shift.NoSlot tail) → WereSought drain_slots told

shift_moved : (tail : ℕ) (m : Mover) (ask : Ask MoveAnswer) (told : List Exchange) → MoveOutcome m ask told → ShiftOutcome (shift_led tail m ask) (move_told tail ask (shift_led tail m ask)) told
unfolding shift_led move_told shifting_ask
shift_moved tail m (Done moved.Through) told its = record { knows = λ on. tt; none = λ to e. cc }
shift_moved tail m (Done moved.NoSlot) told its = record { knows = λ on. tt; none = λ to e. its.none refl }
shift_moved tail m (Done moved.Spent) told its = record { knows = λ on. tt; none = λ to e. cc }
shift_moved tail m ask told its = record {
  knows = λ on. its.knows refl;
  none = λ to e. let clash : shift.Through (record { 0 = tail }) ≡ shift.NoSlot to = passed_alone (move_ask m) (shift.Through (record { 0 = tail })) (shift.NoSlot to) e in cc;
}

shift_either : (b : Bool) (tail to : ℕ) (m : Mover) (told : List Exchange)
    → ShiftOutcome (if b then shift_at (shifts.Moves tail) (move_begun ReadOnly to) else shift_at shifts.AtRest m) (if b then shift_ask (shift_at (shifts.Moves tail) (move_begun ReadOnly to)) else Done (shift.Through (record { 0 = tail }))) told
unfolding shifting_ask
shift_either true tail to m told = record {
  knows = λ on. inl tt;
  none = λ at e. let clash : shift.Through (record { 0 = tail }) ≡ shift.NoSlot at = passed_alone (move_ask (move_begun ReadOnly to)) (shift.Through (record { 0 = tail })) (shift.NoSlot at) e in cc;
}
shift_either false tail to m told = record { knows = λ on. tt; none = λ at e. cc }

shift_at_step : (shape : Shape) (step : Shifting) (m : Mover) (told : List Exchange) (reply : ℕ) → ShiftKnows step m told
    → ShiftOutcome (shifting_next shape step m reply) (shifting_next_ask shape step m reply) (exchanged (shifting_ask step m) reply told)
unfolding shifting_next shifting_next_ask shifting_ask
shift_at_step shape shifts.AtRest m told reply knows = record { knows = λ on. tt; none = λ tail e. cc }
shift_at_step shape shifts.LoadsTail m told reply knows = record { knows = λ on. tt; none = λ tail e. cc }
shift_at_step shape (shifts.LoadsReadOnly tail) m told reply knows = shift_either (nat_lt reply (mutable_start shape.page shape.mutable tail)) tail (mutable_start shape.page shape.mutable tail) m _
shift_at_step shape (shifts.Moves tail) m told reply knows =
    subst (λ (x : List Exchange). ShiftOutcome (shift_led tail (move_next m reply) (move_next_ask m reply)) (move_told tail (move_next_ask m reply) (shift_led tail (move_next m reply) (move_next_ask m reply))) x)
    (sym (passed_told (move_ask m) (shift.Through (record { 0 = tail })) reply told))
    (shift_moved tail (move_next m reply) (move_next_ask m reply) (exchanged (move_ask m) reply told) (move_step m told reply knows))

pub shift_step : (shape : Shape) (s : ShiftState) (told : List Exchange) (reply : ℕ) → ShiftKnows s.step s.mover told
    → ShiftOutcome (shift_next shape s reply) (shift_next_ask shape s reply) (exchanged (shift_ask s) reply told)
shift_step shape s told reply knows = shift_at_step shape s.step s.mover told reply knows

-- the turn of a page
abbrev pub TurnKnows : Turning → Mover → List Exchange → Type 0
TurnKnows turns.Moves m told = MoveKnows m.step m.raising told
TurnKnows step m told = ⊤

pub record TurnOutcome (s : TurnState) (ask : Ask MoveAnswer) (told : List Exchange) : Type 0 where
  pub knows : is_done ask ≡ false → TurnKnows s.step s.mover told
  pub none : ask ≡ Done moved.NoSlot → WereSought drain_slots told

turn_moved : (shape : Shape) (m : Mover) (ask : Ask MoveAnswer) (told : List Exchange) → MoveOutcome m ask told → TurnOutcome (turn_led m ask) (turn_told shape ask (turn_led m ask)) told
unfolding turn_led turn_told turning_ask
turn_moved shape m (Done its) told outcome = record { knows = λ on. tt; none = λ e. outcome.none e }
turn_moved shape m ask told outcome = record {
  knows = λ on. outcome.knows refl;
  none = λ e. let clash : moved.Through ≡ moved.NoSlot = passed_alone (move_ask m) moved.Through moved.NoSlot e in cc;
}

turn_still : (shape : Shape) (step : Turning) (m : Mover) (told : List Exchange) → TurnKnows step m told → TurnOutcome (turn_at step m) (turn_ask shape (turn_at step m)) told
unfolding turning_ask
turn_still shape turns.AtRest m told knows = record { knows = λ on. tt; none = λ e. cc }
turn_still shape (turns.LoadsLimit form tail) m told knows = record { knows = λ on. tt; none = λ e. cc }
turn_still shape (turns.LoadsClosed form limit) m told knows = record { knows = λ on. tt; none = λ e. cc }
turn_still shape (turns.RaisesLimit limit) m told knows = record { knows = λ on. tt; none = λ e. cc }
turn_still shape (turns.LoadsHead end) m told knows = record { knows = λ on. tt; none = λ e. cc }
turn_still shape (turns.LoadsFlushed end) m told knows = record { knows = λ on. tt; none = λ e. cc }
turn_still shape turns.Moves m told knows = record {
  knows = λ on. knows;
  none = λ e. let clash : moved.Through ≡ moved.NoSlot = passed_alone (move_ask m) moved.Through moved.NoSlot e in cc;
}

turn_if : (b : Bool) (x y : Turning) (m : Mover) (told : List Exchange) → TurnKnows x m told → TurnKnows y m told → TurnKnows (if b then x else y) m told
turn_if true x y m told one other = one
turn_if false x y m told one other = other

frame_knows : (form : TurnForm) (end : ℕ) (m : Mover) (told : List Exchange) → TurnKnows (frame_taken form end) m told
frame_knows Whole end m told = tt
frame_knows OpensOnly end m told = tt

turn_moves : (shape : Shape) (b : Bool) (end : ℕ) (m : Mover) (told : List Exchange)
    → TurnOutcome (if b then turn_at turns.Moves (move_begun Head end) else turn_at turns.AtRest m) (turn_ask shape (if b then turn_at turns.Moves (move_begun Head end) else turn_at turns.AtRest m)) told
turn_moves shape true end m told = turn_still shape turns.Moves (move_begun Head end) told (inl tt)
turn_moves shape false end m told = turn_still shape turns.AtRest m told tt

turn_at_step : (shape : Shape) (step : Turning) (m : Mover) (told : List Exchange) (reply : ℕ) → TurnKnows step m told
    → TurnOutcome (turning_next shape step m reply) (turning_next_ask shape step m reply) (exchanged (turning_ask shape step m) reply told)
unfolding turning_next turning_next_ask turning_ask
turn_at_step shape turns.AtRest m told reply knows = turn_still shape turns.AtRest m _ tt
turn_at_step shape (turns.LoadsLimit form tail) m told reply knows =
    turn_still shape (if nat_lt (reply / shape.page) (pages_wanted shape tail) then turns.LoadsClosed form reply else turns.AtRest) m _ (turn_if (nat_lt (reply / shape.page) (pages_wanted shape tail)) (turns.LoadsClosed form reply) turns.AtRest m _ tt tt)
turn_at_step shape (turns.LoadsClosed form limit) m told reply knows =
    turn_still shape (if nat_le (frame_end shape limit) reply then turns.RaisesLimit limit else frame_taken form (frame_end shape limit)) m _
    (turn_if (nat_le (frame_end shape limit) reply) (turns.RaisesLimit limit) (frame_taken form (frame_end shape limit)) m _ tt (frame_knows form (frame_end shape limit) m _))
turn_at_step shape (turns.RaisesLimit limit) m told reply knows = turn_still shape turns.AtRest m _ tt
turn_at_step shape (turns.LoadsHead end) m told reply knows =
    turn_still shape (if nat_lt reply end then turns.LoadsFlushed end else turns.AtRest) m _ (turn_if (nat_lt reply end) (turns.LoadsFlushed end) turns.AtRest m _ tt tt)
turn_at_step shape (turns.LoadsFlushed end) m told reply knows = turn_moves shape (nat_le end reply) end m _
turn_at_step shape turns.Moves m told reply knows =
    subst (λ (x : List Exchange). TurnOutcome (turn_led (move_next m reply) (move_next_ask m reply)) (turn_told shape (move_next_ask m reply) (turn_led (move_next m reply) (move_next_ask m reply))) x)
    (sym (passed_told (move_ask m) moved.Through reply told))
    (turn_moved shape (move_next m reply) (move_next_ask m reply) (exchanged (move_ask m) reply told) (move_step m told reply knows))

pub turn_step : (shape : Shape) (s : TurnState) (told : List Exchange) (reply : ℕ) → TurnKnows s.step s.mover told
    → TurnOutcome (turn_next shape s reply) (turn_next_ask shape s reply) (exchanged (turn_ask shape s) reply told)
turn_step shape s told reply knows = turn_at_step shape s.step s.mover told reply knows
