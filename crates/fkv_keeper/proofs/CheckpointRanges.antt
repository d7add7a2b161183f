-- The drain slot of each machine inside the keeper is one of the eight, whatever the replies.
use Rattle.std.proofs.Common.{◌≡◌, ℕ, ◌+◌, ◌-◌, ◌/◌, ◌<◌, refl, sym, subst, arith, Bool, true, false}
use Rattle.std.specs.Prelude.{Option, Some, None, nat_lt, nat_le, ◌==◌, if◌then◌else◌}
use Rattle.std.proofs.lemmas.Bool.Decides.{nat_tests}
use Rattle.fkv_base.specs.Limits.{drain_slots}
use Rattle.fkv_base.specs.declared.shapes.Shape.{Shape}
use Rattle.fkv_plane.specs.declared.actions.Action.{Action}
use Rattle.fkv_plane.specs.declared.asks.Ask.{Ask}
use Rattle.fkv_plane.specs.declared.asks.Ask.TheVariants.{Done}
use Rattle.fkv_epoch.specs.declared.arming.Arming.{Arming}
use Rattle.fkv_epoch.specs.declared.arming.Arming.TheVariants as arm
use Rattle.fkv_epoch.specs.declared.claiming.Claiming.{Claiming}
use Rattle.fkv_epoch.specs.declared.claiming.Claiming.TheVariants as claim
use Rattle.fkv_epoch.specs.declared.raising.RaiseAnswer.{RaiseAnswer}
use Rattle.fkv_epoch.specs.declared.raising.RaiseAnswer.TheVariants as raised
use Rattle.fkv_epoch.specs.declared.raising.Raising.{Raising}
use Rattle.fkv_epoch.specs.Arming.{arm_ask, arm_next}
use Rattle.fkv_epoch.specs.Claiming.{IsClaimInRange, claim_next, claim_given, slot_after, slot_armed}
use Rattle.fkv_epoch.specs.Raising.{IsRaiseInRange, raise_ask, raise_next, raise_next_ask, raise_on, HasSlotInRange}
use Rattle.fkv_log.specs.declared.moving.MoveAnswer.{MoveAnswer}
use Rattle.fkv_log.specs.declared.moving.Moving.{Moving}
use Rattle.fkv_log.specs.declared.moving.Moving.TheVariants as move
use Rattle.fkv_log.specs.declared.moving.Target.{Target}
use Rattle.fkv_log.specs.declared.shifting.Shifting.{Shifting}
use Rattle.fkv_log.specs.declared.shifting.Shifting.TheVariants as shift
use Rattle.fkv_log.specs.declared.turning.Turning.{Turning}
use Rattle.fkv_log.specs.declared.turning.Turning.TheVariants as turn
use Rattle.fkv_log.specs.Moving.{Mover, raise_led, arm_led, moving_next, move_next, move_next_ask}
use Rattle.fkv_log.specs.Shifting.{ShiftState, mutable_start, shift_led, shifting_next}
use Rattle.fkv_log.specs.declared.turning.TurnForm.{TurnForm}
use Rattle.fkv_log.specs.declared.turning.TurnForm.TheVariants.{Whole, OpensOnly}
use Rattle.fkv_log.specs.Turning.{TurnState, turn_led, turning_next, pages_wanted, frame_end, frame_taken}
use Rattle.fkv_commit.specs.declared.deferring.Deferred.{Deferred}
use Rattle.fkv_commit.specs.declared.deferring.Deferring.{Deferring}
use Rattle.fkv_commit.specs.declared.deferring.Deferring.TheVariants as defer
use Rattle.fkv_commit.specs.Deferring.{DeferState, seek_ledto, raise_ledto, arm_ledto, deferring_next, defer_next, deferring_on, defer_on}
use Rattle.fkv_epoch.proofs.Shown.{next_in_range, on_in_range, ask_in_range, next_ask_in_range}
use Rattle.fkv_keeper.proofs.CheckpointAsks.{IsArmIn, IsMoveIn, IsMoverIn, IsShiftIn, IsTurnIn, IsDeferIn}

pub armed_in : (m : Arming) → IsArmIn m → IsArmIn (arm_next m)
unfolding arm_next
armed_in arm.AtRest fits = tt
armed_in (arm.PutsAction slot epoch) fits = fits
armed_in (arm.StoresEpoch slot epoch) fits = tt

-- a defer
abbrev pub IsDeferredIn : DeferState → Type 0
IsDeferredIn d = IsDeferIn d d.step

same_in : (d : DeferState) (step : Deferring) → d.step ≡ step → IsDeferIn d step → IsDeferredIn d
same_in d step e fits = subst (λ (x : Deferring). IsDeferIn d x) (sym e) fits

sought_in : (d : DeferState) (ask : Ask RaiseAnswer) → d.step ≡ defer.Seeks → IsRaiseInRange d.raising → IsDeferredIn (seek_ledto d ask)
unfolding seek_ledto
sought_in d (Done (raised.HasSlot slot)) e fits = fits
sought_in d (Done raised.Spent) e fits = tt
sought_in d (Done raised.NoSlot) e fits = tt
sought_in d (Done (raised.Raised slot epoch)) e fits = tt
sought_in d ask e fits = same_in d defer.Seeks e fits

raised_in : (its : Deferred) (d : DeferState) (ask : Ask RaiseAnswer) → d.step ≡ defer.Raises its → IsRaiseInRange d.raising → HasSlotInRange ask → IsDeferredIn (raise_ledto its d ask)
unfolding raise_ledto
raised_in its d (Done (raised.Raised slot epoch)) e fits slot_fits = slot_fits
raised_in its d (Done raised.NoSlot) e fits slot_fits = tt
raised_in its d (Done raised.Spent) e fits slot_fits = tt
raised_in its d (Done (raised.HasSlot slot)) e fits slot_fits = tt
raised_in its d ask e fits slot_fits = same_in d (defer.Raises its) e fits

armed_led_in : (epoch : ℕ) (d : DeferState) (ask : Ask (Unit {0})) → IsArmIn d.arming → IsDeferredIn (arm_ledto epoch d ask)
unfolding arm_ledto
armed_led_in epoch d (Done its) fits = tt
armed_led_in epoch d ask fits = fits

deferring_in : (d : DeferState) (step : Deferring) (reply : ℕ) → d.step ≡ step → IsDeferIn d step → IsDeferredIn (deferring_next d step reply)
unfolding deferring_next
deferring_in d (defer.Ended its) reply e fits = same_in d (defer.Ended its) e tt
deferring_in d defer.Seeks reply e fits = sought_in (record d { raising = raise_next d.raising reply }) (raise_next_ask d.raising reply) e (next_in_range d.raising reply fits)
deferring_in d defer.Holds reply e fits = same_in d defer.Holds e fits
deferring_in d (defer.Raises its) reply e fits =
    raised_in its (record d { raising = raise_next d.raising reply }) (raise_next_ask d.raising reply) e (next_in_range d.raising reply fits) (next_ask_in_range d.raising reply fits)
deferring_in d (defer.Puts its slot epoch) reply e fits = armed_led_in epoch (record d { arming = arm_next d.arming }) (arm_ask (arm_next d.arming)) (armed_in d.arming fits)
deferring_in d (defer.Arms epoch) reply e fits = armed_led_in epoch (record d { arming = arm_next d.arming }) (arm_ask (arm_next d.arming)) (armed_in d.arming fits)

pub defer_in : (d : DeferState) (reply : ℕ) → IsDeferredIn d → IsDeferredIn (defer_next d reply)
defer_in d reply fits = deferring_in d d.step reply refl fits

going_on_in : (d : DeferState) (step : Deferring) (its : Deferred) → d.step ≡ step → IsDeferIn d step → IsDeferredIn (deferring_on d step its)
unfolding deferring_on
going_on_in d defer.Holds its e fits = on_in_range d.raising fits
going_on_in d (defer.Ended told) its e fits = same_in d (defer.Ended told) e fits
going_on_in d defer.Seeks its e fits = same_in d defer.Seeks e fits
going_on_in d (defer.Raises other) its e fits = same_in d (defer.Raises other) e fits
going_on_in d (defer.Puts other slot epoch) its e fits = same_in d (defer.Puts other slot epoch) e fits
going_on_in d (defer.Arms epoch) its e fits = same_in d (defer.Arms epoch) e fits

pub defer_on_in : (d : DeferState) (its : Deferred) → IsDeferredIn d → IsDeferredIn (defer_on d its)
defer_on_in d its fits = going_on_in d d.step its refl fits

-- a move
raise_led_in : (target : Target) (raising : Raising) (arming : Arming) (ask : Ask RaiseAnswer) → IsRaiseInRange raising → HasSlotInRange ask → IsMoverIn (raise_led target raising arming ask)
unfolding raise_led
raise_led_in target raising arming (Done (raised.HasSlot slot)) fits slot_fits = fits
raise_led_in target raising arming (Done raised.NoSlot) fits slot_fits = tt
raise_led_in target raising arming (Done raised.Spent) fits slot_fits = tt
raise_led_in target raising arming (Done (raised.Raised slot epoch)) fits slot_fits = slot_fits
raise_led_in target raising arming ask fits slot_fits = fits

arm_led_in : (raising : Raising) (arming : Arming) (ask : Ask (Unit {0})) → IsArmIn arming → IsMoverIn (arm_led raising arming ask)
unfolding arm_led
arm_led_in raising arming (Done its) fits = tt
arm_led_in raising arming ask fits = fits

moving_in : (step : Moving) (raising : Raising) (arming : Arming) (reply : ℕ) → IsMoveIn step raising arming → IsMoverIn (moving_next step raising arming reply)
unfolding moving_next
moving_in move.AtRest raising arming reply fits = tt
moving_in (move.Raises target) raising arming reply fits = raise_led_in target (raise_next raising reply) arming (raise_next_ask raising reply) (next_in_range raising reply fits) (next_ask_in_range raising reply fits)
moving_in (move.MovesOffset target) raising arming reply fits = raise_led_in target (raise_on raising) arming (raise_ask (raise_on raising)) (on_in_range raising fits) (ask_in_range (raise_on raising))
moving_in (move.Puts target slot) raising arming reply fits = arm_led_in raising (arm_next arming) (arm_ask (arm_next arming)) (armed_in arming fits)
moving_in move.Arms raising arming reply fits = arm_led_in raising (arm_next arming) (arm_ask (arm_next arming)) (armed_in arming fits)

pub move_in : (m : Mover) (reply : ℕ) → IsMoverIn m → IsMoverIn (move_next m reply)
move_in m reply fits = moving_in m.step m.raising m.arming reply fits

-- the shift of the read-only offset
abbrev pub IsShiftedIn : ShiftState → Type 0
IsShiftedIn s = IsShiftIn s.step s.mover

shift_led_in : (tail : ℕ) (m : Mover) (ask : Ask MoveAnswer) → IsMoverIn m → IsShiftedIn (shift_led tail m ask)
unfolding shift_led
shift_led_in tail m (Done its) fits = tt
shift_led_in tail m ask fits = fits

either_shift : (b : Bool) (x y : ShiftState) → IsShiftedIn x → IsShiftedIn y → IsShiftedIn (if b then x else y)
either_shift true x y one other = one
either_shift false x y one other = other

pub shift_in : (shape : Shape) (step : Shifting) (m : Mover) (reply : ℕ) → IsShiftIn step m → IsShiftedIn (shifting_next shape step m reply)
unfolding shifting_next
shift_in shape shift.AtRest m reply fits = tt
shift_in shape shift.LoadsTail m reply fits = tt
shift_in shape (shift.LoadsReadOnly tail) m reply fits = either_shift (nat_lt reply (mutable_start shape.page shape.mutable tail)) _ _ tt tt
shift_in shape (shift.Moves tail) m reply fits = shift_led_in tail (move_next m reply) (move_next_ask m reply) (move_in m reply fits)

-- the turn of a page
abbrev pub IsTurnedIn : TurnState → Type 0
IsTurnedIn s = IsTurnIn s.step s.mover

turn_led_in : (m : Mover) (ask : Ask MoveAnswer) → IsMoverIn m → IsTurnedIn (turn_led m ask)
unfolding turn_led
turn_led_in m (Done its) fits = tt
turn_led_in m ask fits = fits

either_turning : (b : Bool) (x y : Turning) (m : Mover) → IsTurnIn x m → IsTurnIn y m → IsTurnIn (if b then x else y) m
either_turning true x y m one other = one
either_turning false x y m one other = other

either_turn : (b : Bool) (x y : TurnState) → IsTurnedIn x → IsTurnedIn y → IsTurnedIn (if b then x else y)
either_turn true x y one other = one
either_turn false x y one other = other

frame_in : (form : TurnForm) (end : ℕ) (m : Mover) → IsTurnIn (frame_taken form end) m
frame_in Whole end m = tt
frame_in OpensOnly end m = tt

pub turn_in : (shape : Shape) (step : Turning) (m : Mover) (reply : ℕ) → IsTurnIn step m → IsTurnedIn (turning_next shape step m reply)
unfolding turning_next
turn_in shape turn.AtRest m reply fits = tt
turn_in shape (turn.LoadsLimit form tail) m reply fits = either_turning (nat_lt (reply / shape.page) (pages_wanted shape tail)) _ _ m tt tt
turn_in shape (turn.LoadsClosed form limit) m reply fits = either_turning (nat_le (frame_end shape limit) reply) _ _ m tt (frame_in form (frame_end shape limit) m)
turn_in shape (turn.RaisesLimit limit) m reply fits = tt
turn_in shape (turn.LoadsHead end) m reply fits = either_turning (nat_lt reply end) _ _ m tt tt
turn_in shape (turn.LoadsFlushed end) m reply fits = either_turn (nat_le end reply) _ _ tt tt
turn_in shape turn.Moves m reply fits = turn_led_in (move_next m reply) (move_next_ask m reply) (move_in m reply fits)

-- the claims
either_claim : (b : Bool) (x y : Claiming) → IsClaimInRange x → IsClaimInRange y → IsClaimInRange (if b then x else y)
either_claim true x y one other = one
either_claim false x y one other = other

after_where : (slot : ℕ) (safe : Option ℕ) (b : Bool) → nat_lt (slot + 1) drain_slots ≡ b → IsClaimInRange (if b then claim.MeetsSlot (slot + 1) safe else claim.AtRest)
after_where slot safe true e = let below : slot + 1 < drain_slots = grind (arith, nat_tests, e) in below
after_where slot safe false e = tt

after_in : (slot : ℕ) (safe : Option ℕ) → IsClaimInRange (slot_after slot safe)
unfolding slot_after
after_in slot safe = after_where slot safe (nat_lt (slot + 1) drain_slots) refl

armed_slot_in : (slot word safe : ℕ) → slot < drain_slots → IsClaimInRange (slot_armed slot word safe)
unfolding slot_armed
armed_slot_in slot word safe fits = either_claim (nat_le (word - 2) safe) _ _ fits (after_in slot (Some safe))

pub claim_in : (m : Claiming) (reply : ℕ) → IsClaimInRange m → IsClaimInRange (claim_next m reply)
unfolding claim_next
claim_in claim.AtRest reply fits = tt
claim_in (claim.MeetsSlot slot None) reply fits = either_claim (nat_lt reply 2) _ _ (after_in slot None) fits
claim_in (claim.MeetsSlot slot (Some safe)) reply fits = either_claim (nat_lt reply 2) _ _ (after_in slot (Some safe)) (armed_slot_in slot reply safe fits)
claim_in (claim.LoadsSafe slot word) reply fits = armed_slot_in slot word reply fits
claim_in (claim.TakesSlot slot word safe) reply fits = either_claim (reply == word) _ _ fits (after_in slot (Some safe))
claim_in (claim.Receives slot epoch safe) reply fits = fits
claim_in (claim.Runs slot epoch safe action) reply fits = fits
claim_in (claim.FreesSlot slot safe) reply fits = after_in slot (Some safe)

pub given_in : (m : Claiming) (action : Action) → IsClaimInRange m → IsClaimInRange (claim_given m action)
unfolding claim_given
given_in (claim.Receives slot epoch safe) action fits = fits
given_in claim.AtRest action fits = tt
given_in (claim.MeetsSlot slot safe) action fits = fits
given_in (claim.LoadsSafe slot word) action fits = fits
given_in (claim.TakesSlot slot word safe) action fits = fits
given_in (claim.Runs slot epoch safe other) action fits = fits
given_in (claim.FreesSlot slot safe) action fits = fits
