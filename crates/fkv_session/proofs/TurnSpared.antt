-- A session's own turn stores words of drain slots and the phase word alone.
use Rattle.std.proofs.Common.{◌≡◌, ℕ, ◌+◌, ◌<◌, refl, arith, inl, Bool, true, false}
use Rattle.std.specs.Prelude.{if◌then◌else◌, nat_lt, ◌==◌}
use Rattle.std.proofs.lemmas.Bool.Decides.{nat_tests}
use Rattle.fkv_base.specs.Limits.{drain_slots}
use Rattle.fkv_base.specs.declared.shapes.Shape.{Shape}
use Rattle.fkv_plane.specs.declared.actions.Action.{Action}
use Rattle.fkv_plane.specs.declared.asks.Ask.{Ask}
use Rattle.fkv_plane.specs.declared.asks.Ask.TheVariants.{Done}
use Rattle.fkv_epoch.specs.declared.arming.Arming.{Arming}
use Rattle.fkv_epoch.specs.declared.arming.Arming.TheVariants as arm
use Rattle.fkv_epoch.specs.declared.raising.RaiseAnswer.{RaiseAnswer}
use Rattle.fkv_epoch.specs.declared.raising.RaiseAnswer.TheVariants as raised
use Rattle.fkv_epoch.specs.declared.raising.Raising.{Raising}
use Rattle.fkv_epoch.specs.declared.raising.Raising.TheVariants as raise
use Rattle.fkv_epoch.specs.Arming.{arm_ask, arm_next}
use Rattle.fkv_epoch.specs.Claiming.{IsClaimInRange, claim_next, claim_given}
use Rattle.fkv_epoch.specs.Raising.{IsRaiseInRange, raise_ask, free_after, raise_next, raise_next_ask, raise_on}
use Rattle.fkv_epoch.specs.Scanning.{scan_next}
use Rattle.fkv_log.specs.declared.moving.MoveAnswer.{MoveAnswer}
use Rattle.fkv_log.specs.declared.moving.Moving.{Moving}
use Rattle.fkv_log.specs.declared.moving.Moving.TheVariants as move
use Rattle.fkv_log.specs.declared.moving.Offset.TheVariants.{ReadOnly}
use Rattle.fkv_log.specs.declared.moving.Target.{Target}
use Rattle.fkv_log.specs.declared.shifting.ShiftAnswer.{ShiftAnswer}
use Rattle.fkv_log.specs.declared.shifting.Shifting.{Shifting}
use Rattle.fkv_log.specs.declared.shifting.Shifting.TheVariants as shift
use Rattle.fkv_log.specs.declared.turning.TurnForm.TheVariants.{Whole, OpensOnly}
use Rattle.fkv_log.specs.declared.turning.Turning.{Turning}
use Rattle.fkv_log.specs.declared.turning.Turning.TheVariants as turn
use Rattle.fkv_log.specs.Moving.{Mover, move_begun, moving_ask, raise_led, arm_led, moving_next, move_next, move_next_ask}
use Rattle.fkv_log.specs.Shifting.{ShiftState, shift_at, mutable_start, shifting_ask, shift_led, shifting_next, shift_next}
use Rattle.fkv_log.specs.Turning.{turning_ask, turning_next, turn_next}
use Rattle.fkv_session.specs.declared.own_turns.OwnTurning.{OwnTurning}
use Rattle.fkv_session.specs.declared.own_turns.OwnTurning.TheVariants.{Ended, Scans, Claims, Shifts, Opens}
use Rattle.fkv_session.specs.OwnTurns.{OwnTurnState, own_turn_begun, own_turning_ask, own_turn_ask, scan_ledto, claim_ledto, shift_ledto, open_ledto, own_turning_next, own_turn_next, own_turning_given, own_turn_given}
use Rattle.fkv_session.proofs.MarksSpared.{StoresOff, passed_off, scan_off, claim_off, claim_range, claim_given_range}

-- a raise
abbrev pub RaisesInRange : Ask RaiseAnswer → Type 0
RaisesInRange (Done (raised.Raised slot epoch)) = slot < drain_slots
RaisesInRange ask = Unit {0}

raises_either : (c : Bool) (a b : Raising) → (c ≡ true → IsRaiseInRange a) → (c ≡ false → IsRaiseInRange b) → IsRaiseInRange (if c then a else b)
raises_either true a b one other = one refl
raises_either false a b one other = other refl

free_range : (slot : ℕ) → IsRaiseInRange (free_after slot)
unfolding free_after
free_range slot = raises_either (nat_lt (slot + 1) drain_slots) (raise.MeetsSlot (slot + 1)) raise.AtRest (λ e. grind (arith, nat_tests, e)) (λ e. tt)

raise_range : (step : Raising) (reply : ℕ) → IsRaiseInRange step → IsRaiseInRange (raise_next step reply)
unfolding raise_next
raise_range raise.AtRest reply range = tt
raise_range raise.LoadsEpoch reply range = raises_either _ raise.AtRest (raise.MeetsSlot 0) (λ e. tt) (λ e. omega arith)
raise_range (raise.MeetsSlot slot) reply range = raises_either (reply == 0) (raise.HoldsSlot slot) (free_after slot) (λ e. range) (λ e. free_range slot)
raise_range (raise.HoldsSlot slot) reply range = raises_either (reply == 0) (raise.HasSlot slot) (free_after slot) (λ e. range) (λ e. free_range slot)
raise_range (raise.HasSlot slot) reply range = range
raise_range (raise.RaisesEpoch slot) reply range = tt

on_range : (step : Raising) → IsRaiseInRange step → IsRaiseInRange (raise_on step)
unfolding raise_on
on_range (raise.HasSlot slot) range = range
on_range raise.AtRest range = range
on_range raise.LoadsEpoch range = range
on_range (raise.MeetsSlot slot) range = range
on_range (raise.HoldsSlot slot) range = range
on_range (raise.RaisesEpoch slot) range = range

asks_range : (step : Raising) → RaisesInRange (raise_ask step)
unfolding raise_ask
asks_range raise.AtRest = tt
asks_range step = tt

asks_either : (c : Bool) (a b : Ask RaiseAnswer) → RaisesInRange a → RaisesInRange b → RaisesInRange (if c then a else b)
asks_either true a b one other = one
asks_either false a b one other = other

told_range : (step : Raising) (reply : ℕ) → IsRaiseInRange step → RaisesInRange (raise_next_ask step reply)
unfolding raise_next_ask
told_range raise.LoadsEpoch reply range = asks_either _ (Done raised.Spent) (raise_ask (raise.MeetsSlot 0)) tt (asks_range (raise.MeetsSlot 0))
told_range (raise.RaisesEpoch slot) reply range = range
told_range raise.AtRest reply range = asks_range (raise_next raise.AtRest reply)
told_range (raise.MeetsSlot slot) reply range = asks_range (raise_next (raise.MeetsSlot slot) reply)
told_range (raise.HoldsSlot slot) reply range = asks_range (raise_next (raise.HoldsSlot slot) reply)
told_range (raise.HasSlot slot) reply range = asks_range (raise_next (raise.HasSlot slot) reply)

raise_off : (n : ℕ) (step : Raising) → StoresOff n (raise_ask step)
unfolding raise_ask
raise_off n raise.AtRest = tt
raise_off n step = tt

-- an arming
abbrev pub ArmsInRange : Arming → Type 0
ArmsInRange arm.AtRest = Unit {0}
ArmsInRange (arm.PutsAction slot epoch) = slot < drain_slots
ArmsInRange (arm.StoresEpoch slot epoch) = slot < drain_slots

arm_off : (n : ℕ) (step : Arming) → ArmsInRange step → StoresOff n (arm_ask step)
unfolding arm_ask
arm_off n arm.AtRest range = tt
arm_off n (arm.PutsAction slot epoch) range = tt
arm_off n (arm.StoresEpoch slot epoch) range = inl (omega (arith, range))

arm_range : (step : Arming) → ArmsInRange step → ArmsInRange (arm_next step)
unfolding arm_next
arm_range arm.AtRest range = tt
arm_range (arm.PutsAction slot epoch) range = range
arm_range (arm.StoresEpoch slot epoch) range = tt

-- a move
abbrev pub MovesInRange : Moving → Raising → Arming → Type 0
MovesInRange move.AtRest raising arming = Unit {0}
MovesInRange (move.Raises target) raising arming = IsRaiseInRange raising
MovesInRange (move.MovesOffset target) raising arming = IsRaiseInRange raising
MovesInRange (move.Puts target slot) raising arming = ArmsInRange arming
MovesInRange move.Arms raising arming = ArmsInRange arming

abbrev pub IsMoveInRange : Mover → Type 0
IsMoveInRange m = MovesInRange m.step m.raising m.arming

move_off : (n : ℕ) (step : Moving) (raising : Raising) (arming : Arming) → MovesInRange step raising arming → StoresOff n (moving_ask step raising arming)
unfolding moving_ask
move_off n move.AtRest raising arming range = tt
move_off n (move.Raises target) raising arming range = passed_off n _ _ (raise_off n raising)
move_off n (move.MovesOffset target) raising arming range = tt
move_off n (move.Puts target slot) raising arming range = tt
move_off n move.Arms raising arming range = passed_off n _ _ (arm_off n arming range)

led_range : (target : Target) (raising : Raising) (arming : Arming) (ask : Ask RaiseAnswer) → IsRaiseInRange raising → RaisesInRange ask → IsMoveInRange (raise_led target raising arming ask)
unfolding raise_led
led_range target raising arming (Done (raised.HasSlot slot)) range told = range
led_range target raising arming (Done raised.NoSlot) range told = tt
led_range target raising arming (Done raised.Spent) range told = tt
led_range target raising arming (Done (raised.Raised slot epoch)) range told = told
led_range target raising arming ask range told = range

arms_range : (raising : Raising) (arming : Arming) (ask : Ask (Unit {0})) → ArmsInRange arming → IsMoveInRange (arm_led raising arming ask)
unfolding arm_led
arms_range raising arming (Done its) range = tt
arms_range raising arming ask range = range

move_range : (step : Moving) (raising : Raising) (arming : Arming) (reply : ℕ) → MovesInRange step raising arming → IsMoveInRange (moving_next step raising arming reply)
unfolding moving_next
move_range move.AtRest raising arming reply range = tt
move_range (move.Raises target) raising arming reply range = led_range target (raise_next raising reply) arming (raise_next_ask raising reply) (raise_range raising reply range) (told_range raising reply range)
move_range (move.MovesOffset target) raising arming reply range = led_range target (raise_on raising) arming (raise_ask (raise_on raising)) (on_range raising range) (asks_range (raise_on raising))
move_range (move.Puts target slot) raising arming reply range = arms_range raising (arm_next arming) (arm_ask (arm_next arming)) (arm_range arming range)
move_range move.Arms raising arming reply range = arms_range raising (arm_next arming) (arm_ask (arm_next arming)) (arm_range arming range)

-- a shift
abbrev pub ShiftsInRange : Shifting → Mover → Type 0
ShiftsInRange (shift.Moves tail) m = IsMoveInRange m
ShiftsInRange step m = Unit {0}

abbrev pub IsShiftInRange : ShiftState → Type 0
IsShiftInRange s = ShiftsInRange s.step s.mover

shift_off : (n : ℕ) (step : Shifting) (m : Mover) → ShiftsInRange step m → StoresOff n (shifting_ask step m)
unfolding shifting_ask
shift_off n (shift.Moves tail) m range = passed_off n _ _ (move_off n m.step m.raising m.arming range)
shift_off n shift.AtRest m range = tt
shift_off n shift.LoadsTail m range = tt
shift_off n (shift.LoadsReadOnly tail) m range = tt

shift_either : (c : Bool) (a b : ShiftState) → IsShiftInRange a → IsShiftInRange b → IsShiftInRange (if c then a else b)
shift_either true a b one other = one
shift_either false a b one other = other

shift_led_range : (tail : ℕ) (m : Mover) (ask : Ask MoveAnswer) → IsMoveInRange m → IsShiftInRange (shift_led tail m ask)
unfolding shift_led
shift_led_range tail m (Done its) range = tt
shift_led_range tail m ask range = range

shift_range : (shape : Shape) (step : Shifting) (m : Mover) (reply : ℕ) → ShiftsInRange step m → IsShiftInRange (shifting_next shape step m reply)
unfolding shifting_next
shift_range shape shift.AtRest m reply range = tt
shift_range shape shift.LoadsTail m reply range = tt
shift_range shape (shift.LoadsReadOnly tail) m reply range =
    let start : ℕ = mutable_start shape.page shape.mutable tail in
    shift_either (nat_lt reply start) (shift_at (shift.Moves tail) (move_begun ReadOnly start)) (shift_at shift.AtRest m) tt tt
shift_range shape (shift.Moves tail) m reply range = shift_led_range tail (move_next m reply) (move_next_ask m reply) (move_range m.step m.raising m.arming reply range)

-- a turn that opens only
abbrev pub OpensAlone : Turning → Type 0
OpensAlone turn.AtRest = Unit {0}
OpensAlone (turn.LoadsLimit OpensOnly tail) = Unit {0}
OpensAlone (turn.LoadsClosed OpensOnly limit) = Unit {0}
OpensAlone (turn.RaisesLimit limit) = Unit {0}
OpensAlone step = ⊥

open_off : (n : ℕ) (shape : Shape) (step : Turning) (m : Mover) → OpensAlone step → StoresOff n (turning_ask shape step m)
unfolding turning_ask
open_off n shape turn.AtRest m alone = tt
open_off n shape (turn.LoadsLimit form tail) m alone = tt
open_off n shape (turn.LoadsClosed form limit) m alone = tt
open_off n shape (turn.RaisesLimit limit) m alone = tt
open_off n shape (turn.LoadsHead end) m alone = tt
open_off n shape (turn.LoadsFlushed end) m alone = tt
open_off n shape turn.Moves m alone = absurd alone

open_either : (c : Bool) (a b : Turning) → OpensAlone a → OpensAlone b → OpensAlone (if c then a else b)
open_either true a b one other = one
open_either false a b one other = other

open_alone : (shape : Shape) (step : Turning) (m : Mover) (reply : ℕ) → OpensAlone step → OpensAlone (turning_next shape step m reply).step
unfolding turning_next
open_alone shape turn.AtRest m reply alone = tt
open_alone shape (turn.LoadsLimit OpensOnly tail) m reply alone = open_either _ (turn.LoadsClosed OpensOnly reply) turn.AtRest tt tt
open_alone shape (turn.LoadsLimit Whole tail) m reply alone = absurd alone
open_alone shape (turn.LoadsClosed OpensOnly limit) m reply alone = open_either _ (turn.RaisesLimit limit) turn.AtRest tt tt
open_alone shape (turn.LoadsClosed Whole limit) m reply alone = absurd alone
open_alone shape (turn.RaisesLimit limit) m reply alone = tt
open_alone shape (turn.LoadsHead end) m reply alone = absurd alone
open_alone shape (turn.LoadsFlushed end) m reply alone = absurd alone
open_alone shape turn.Moves m reply alone = absurd alone

-- the whole
abbrev pub OwnTurnSpares : OwnTurnState → OwnTurning → Type 0
OwnTurnSpares o Claims = IsClaimInRange o.claiming
OwnTurnSpares o Shifts = IsShiftInRange o.shift
OwnTurnSpares o Opens = OpensAlone o.turn.step
OwnTurnSpares o step = Unit {0}

abbrev pub IsOwnTurnSparing : OwnTurnState → Type 0
IsOwnTurnSparing o = OwnTurnSpares o o.step

own_off : (n : ℕ) (shape : Shape) (o : OwnTurnState) (step : OwnTurning) → OwnTurnSpares o step → StoresOff n (own_turning_ask shape o step)
unfolding own_turning_ask
own_off n shape o Ended spares = tt
own_off n shape o Scans spares = passed_off n _ _ (scan_off n o.scanning)
own_off n shape o Claims spares = passed_off n _ _ (claim_off n o.claiming spares)
own_off n shape o Shifts spares = passed_off n _ _ (shift_off n o.shift.step o.shift.mover spares)
own_off n shape o Opens spares = passed_off n _ _ (open_off n shape o.turn.step o.turn.mover spares)

pub own_turn_off : (n : ℕ) (shape : Shape) (o : OwnTurnState) → IsOwnTurnSparing o → StoresOff n (own_turn_ask shape o)
own_turn_off n shape o spares = own_off n shape o o.step spares

still_own : (o : OwnTurnState) (step : OwnTurning) → o.step ≡ step → OwnTurnSpares o step → IsOwnTurnSparing o
still_own o step e spares = rw e spares

scanned : (o : OwnTurnState) (ask : Ask (Unit {0})) → o.step ≡ Scans → IsOwnTurnSparing (scan_ledto o ask)
unfolding scan_ledto
scanned o (Done its) e = omega arith
scanned o ask e = still_own o Scans e tt

claimed : (o : OwnTurnState) (ask : Ask (Unit {0})) → o.step ≡ Claims → IsClaimInRange o.claiming → IsOwnTurnSparing (claim_ledto o ask)
unfolding claim_ledto
claimed o (Done its) e range = tt
claimed o ask e range = still_own o Claims e range

shifted : (o : OwnTurnState) (ask : Ask ShiftAnswer) → o.step ≡ Shifts → IsShiftInRange o.shift → IsOwnTurnSparing (shift_ledto o ask)
unfolding shift_ledto
shifted o (Done its) e range = tt
shifted o ask e range = still_own o Shifts e range

opened : (o : OwnTurnState) (ask : Ask MoveAnswer) → o.step ≡ Opens → OpensAlone o.turn.step → IsOwnTurnSparing (open_ledto o ask)
unfolding open_ledto
opened o (Done its) e alone = tt
opened o ask e alone = still_own o Opens e alone

own_step : (shape : Shape) (o : OwnTurnState) (step : OwnTurning) (reply : ℕ) → o.step ≡ step → OwnTurnSpares o step → IsOwnTurnSparing (own_turning_next shape o step reply)
unfolding own_turning_next
own_step shape o Ended reply e spares = still_own o Ended e spares
own_step shape o Scans reply e spares = scanned (record o { scanning = scan_next shape.sessions o.scanning reply }) _ e
own_step shape o Claims reply e spares = claimed (record o { claiming = claim_next o.claiming reply }) _ e (claim_range o.claiming reply spares)
own_step shape o Shifts reply e spares = shifted (record o { shift = shift_next shape o.shift reply }) _ e (shift_range shape o.shift.step o.shift.mover reply spares)
own_step shape o Opens reply e spares = opened (record o { turn = turn_next shape o.turn reply }) _ e (open_alone shape o.turn.step o.turn.mover reply spares)

pub own_turn_spares : (shape : Shape) (o : OwnTurnState) (reply : ℕ) → IsOwnTurnSparing o → IsOwnTurnSparing (own_turn_next shape o reply)
own_turn_spares shape o reply spares = own_step shape o o.step reply refl spares

own_given : (o : OwnTurnState) (step : OwnTurning) (action : Action) → o.step ≡ step → OwnTurnSpares o step → IsOwnTurnSparing (own_turning_given o step action)
unfolding own_turning_given
own_given o Claims action e spares = claimed (record o { claiming = claim_given o.claiming action }) _ e (claim_given_range o.claiming action spares)
own_given o Ended action e spares = still_own o Ended e spares
own_given o Scans action e spares = still_own o Scans e spares
own_given o Shifts action e spares = still_own o Shifts e spares
own_given o Opens action e spares = still_own o Opens e spares

pub own_turn_given_spares : (o : OwnTurnState) (action : Action) → IsOwnTurnSparing o → IsOwnTurnSparing (own_turn_given o action)
own_turn_given_spares o action spares = own_given o o.step action refl spares

pub own_turn_begun_spares : (o : OwnTurnState) → IsOwnTurnSparing (own_turn_begun o)
own_turn_begun_spares o = tt
