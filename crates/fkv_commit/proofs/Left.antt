-- A machine asks for something just where asks are left to it, and each reply leaves fewer.
use Rattle.std.proofs.Common.{◌≡◌, ℕ, ◌+◌, ◌<◌, ◌≤◌, refl, arith, Bool, true, false}
use Rattle.std.specs.Prelude.{◌==◌, nat_lt, nat_le, if◌then◌else◌}
use Rattle.fkv_base.specs.Limits.{drain_slots, last_epoch}
use Rattle.fkv_plane.specs.declared.asks.Ask.{Ask}
use Rattle.fkv_plane.specs.declared.asks.Ask.TheVariants.{Done}
use Rattle.fkv_plane.specs.Passing.{passed}
use Rattle.fkv_plane.proofs.Shown.{never, none, some_inside, passed_left, passed_alone, sum_most, sum_whole}
use Rattle.fkv_epoch.specs.declared.raising.RaiseAnswer.{RaiseAnswer}
use Rattle.fkv_epoch.specs.declared.raising.RaiseAnswer.TheVariants as raised
use Rattle.fkv_epoch.specs.declared.raising.Raising.{Raising}
use Rattle.fkv_epoch.specs.declared.raising.Raising.TheVariants as raise
use Rattle.fkv_epoch.specs.declared.arming.Arming.{Arming}
use Rattle.fkv_epoch.specs.declared.arming.Arming.TheVariants as arm
use Rattle.fkv_epoch.specs.Raising.{raise_ask, raise_next, raise_next_ask, raise_on, raise_asks_left, free_after}
use Rattle.fkv_epoch.specs.Arming.{arm_ask, arm_next}
use Rattle.fkv_epoch.proofs.Shown.{raise_left, raise_fewer}
use Rattle.fkv_commit.specs.declared.deferring.Deferred.{Deferred}
use Rattle.fkv_commit.specs.declared.deferring.DeferAnswer.TheVariants as answer
use Rattle.fkv_commit.specs.declared.deferring.Deferring.{Deferring}
use Rattle.fkv_commit.specs.declared.deferring.Deferring.TheVariants as defer
use Rattle.fkv_commit.specs.Deferring.{DeferState, defer_ask, deferring_ask, defer_next, deferring_next, defer_on, deferring_on, seek_ledto, raise_ledto, arm_ledto}
use Rattle.fkv_plane.specs.AsksLeft.{AsksWhereLeft, sum_left}
use Rattle.fkv_commit.specs.AsksLeft.{arms_left, deferring_asks_left, defer_asks_left, deferring_asks_later, defer_asks_later}

-- one that is deferred

arming_left : (step : Arming) → AsksWhereLeft (arms_left step) (arm_ask step)
unfolding arms_left arm_ask
arming_left arm.AtRest = (never, none)
arming_left (arm.PutsAction slot epoch) = (never, none)
arming_left (arm.StoresEpoch slot epoch) = (λ asks. omega arith, λ some. refl)

deferring_left : (d : DeferState) (step : Deferring) → AsksWhereLeft (deferring_asks_left d step) (deferring_ask d step)
unfolding deferring_asks_left deferring_ask
deferring_left d (defer.Ended its) = (never, none)
deferring_left d defer.Seeks = passed_alone (raise_asks_left d.raising) (raise_ask d.raising) answer.NoSlot (raise_left d.raising)
deferring_left d defer.Holds = (never, none)
deferring_left d (defer.Raises its) = passed_left (raise_asks_left d.raising) 2 (raise_ask d.raising) answer.NoSlot (raise_left d.raising)
deferring_left d (defer.Puts its slot epoch) = (λ asks. omega arith, λ some. refl)
deferring_left d (defer.Arms epoch) = passed_alone (arms_left d.arming) (arm_ask d.arming) (answer.Armed epoch) (arming_left d.arming)

pub defer_left : (d : DeferState) → AsksWhereLeft (defer_asks_left d) (defer_ask d)
defer_left d = deferring_left d d.step

seek_led_left : (d : DeferState) (ask : Ask RaiseAnswer) → d.step ≡ defer.Seeks → defer_asks_left (seek_ledto d ask) ≤ raise_asks_left d.raising
unfolding seek_ledto deferring_asks_left
seek_led_left d (Done (raised.HasSlot slot)) at = omega arith
seek_led_left d (Done raised.Spent) at = omega arith
seek_led_left d (Done its) at = omega arith
seek_led_left d ask at = rw at (omega arith)

raise_led_left : (its : Deferred) (d : DeferState) (old : ℕ) (ask : Ask RaiseAnswer) → d.step ≡ defer.Raises its → 0 < old → raise_asks_left d.raising < old → defer_asks_left (raise_ledto its d ask) < sum_left old 2
unfolding raise_ledto deferring_asks_left
raise_led_left its d old (Done (raised.Raised slot epoch)) at some fewer = let whole = sum_whole old 2 some in omega (arith, whole, some)
raise_led_left its d old (Done other) at some fewer = let whole = sum_whole old 2 some in omega (arith, whole, some)
raise_led_left its d old ask at some fewer =
    let whole = sum_whole old 2 some in
    let most = sum_most (raise_asks_left d.raising) 2 in
    rw at (omega (arith, whole, most, fewer))

arm_led_left : (epoch : ℕ) (d : DeferState) (ask : Ask (Unit {0})) → defer_asks_left (arm_ledto epoch d ask) ≤ arms_left d.arming
unfolding arm_ledto deferring_asks_left
arm_led_left epoch d (Done its) = omega arith
arm_led_left epoch d ask = omega arith

arms_once : (step : Arming) → arms_left (arm_next step) ≤ 1
unfolding arms_left arm_next
arms_once arm.AtRest = omega arith
arms_once (arm.PutsAction slot epoch) = omega arith
arms_once (arm.StoresEpoch slot epoch) = omega arith

arms_fewer : (step : Arming) → 0 < arms_left step → arms_left (arm_next step) < arms_left step
unfolding arms_left arm_next
arms_fewer arm.AtRest some = none some
arms_fewer (arm.PutsAction slot epoch) some = none some
arms_fewer (arm.StoresEpoch slot epoch) some = omega arith

deferring_fewer : (d : DeferState) (step : Deferring) (reply : ℕ) → d.step ≡ step → 0 < deferring_asks_left d step → defer_asks_left (deferring_next d step reply) < deferring_asks_left d step
unfolding deferring_asks_left deferring_next
deferring_fewer d (defer.Ended its) reply at some = none some
deferring_fewer d defer.Seeks reply at some =
    let fewer = raise_fewer d.raising reply in
    let led = seek_led_left (record d { raising = raise_next d.raising reply }) (raise_next_ask d.raising reply) at in
    omega (arith, fewer, led, some)
deferring_fewer d defer.Holds reply at some = none some
deferring_fewer d (defer.Raises its) reply at some =
    let inside = some_inside (raise_asks_left d.raising) 2 some in
    let fewer = raise_fewer d.raising reply in
    raise_led_left its (record d { raising = raise_next d.raising reply }) (raise_asks_left d.raising) (raise_next_ask d.raising reply) at inside (omega (arith, fewer, inside))
deferring_fewer d (defer.Puts its slot epoch) reply at some =
    let led = arm_led_left epoch (record d { arming = arm_next d.arming }) (arm_ask (arm_next d.arming)) in
    let once = arms_once d.arming in
    omega (arith, led, once)
deferring_fewer d (defer.Arms epoch) reply at some =
    let led = arm_led_left epoch (record d { arming = arm_next d.arming }) (arm_ask (arm_next d.arming)) in
    let fewer = arms_fewer d.arming some in
    omega (arith, led, fewer)

pub defer_fewer : (d : DeferState) (reply : ℕ) → 0 < defer_asks_left d → defer_asks_left (defer_next d reply) < defer_asks_left d
defer_fewer d reply some = deferring_fewer d d.step reply refl some

deferring_on_left : (d : DeferState) (step : Deferring) (its : Deferred) → d.step ≡ step → defer_asks_left (deferring_on d step its) ≡ deferring_asks_later d step
unfolding deferring_on deferring_asks_later deferring_asks_left
deferring_on_left d defer.Holds its at = refl
deferring_on_left d (defer.Ended other) its at = rw at refl
deferring_on_left d defer.Seeks its at = rw at refl
deferring_on_left d (defer.Raises other) its at = rw at refl
deferring_on_left d (defer.Puts other slot epoch) its at = rw at refl
deferring_on_left d (defer.Arms epoch) its at = rw at refl

-- what is left once its owner lets it go on
pub defer_on_left : (d : DeferState) (its : Deferred) → defer_asks_left (defer_on d its) ≡ defer_asks_later d
defer_on_left d its = deferring_on_left d d.step its refl

-- a raise that tells that it has a slot has it
pub tells_slot : (step : Raising) (reply slot : ℕ) → raise_next_ask step reply ≡ Done (raised.HasSlot slot) → raise_next step reply ≡ raise.HasSlot slot
unfolding raise_next_ask raise_next raise_ask free_after
tells_slot raise.AtRest reply slot e = cc
tells_slot raise.LoadsEpoch reply slot e = tested (nat_le last_epoch reply) e
  where
    tested : (b : Bool) → (if b then Done raised.Spent else raise_ask (raise.MeetsSlot 0)) ≡ Done (raised.HasSlot slot) → (if b then raise.AtRest else raise.MeetsSlot 0) ≡ raise.HasSlot slot
    tested true e = cc
    tested false e = cc
tells_slot (raise.MeetsSlot its) reply slot e = tested (reply == 0) (nat_lt (its + 1) drain_slots) e
  where
    tested : (a b : Bool) → raise_ask (if a then raise.HoldsSlot its else if b then raise.MeetsSlot (its + 1) else raise.AtRest) ≡ Done (raised.HasSlot slot)
        → (if a then raise.HoldsSlot its else if b then raise.MeetsSlot (its + 1) else raise.AtRest) ≡ raise.HasSlot slot
    tested true b e = cc
    tested false true e = cc
    tested false false e = cc
tells_slot (raise.HoldsSlot its) reply slot e = tested (reply == 0) (nat_lt (its + 1) drain_slots) e
  where
    tested : (a b : Bool) → raise_ask (if a then raise.HasSlot its else if b then raise.MeetsSlot (its + 1) else raise.AtRest) ≡ Done (raised.HasSlot slot)
        → (if a then raise.HasSlot its else if b then raise.MeetsSlot (its + 1) else raise.AtRest) ≡ raise.HasSlot slot
    tested true b e = cc
    tested false true e = cc
    tested false false e = cc
tells_slot (raise.HasSlot its) reply slot e = cc
tells_slot (raise.RaisesEpoch its) reply slot e = cc

not_held : {A : Type 0} (ask : Ask A) → passed ask answer.NoSlot ≡ Done answer.Held → ⊥
unfolding passed
not_held (Done its) e = cc
not_held ask e = cc

held_of : (d : DeferState) (ask : Ask RaiseAnswer) → ((slot : ℕ) → ask ≡ Done (raised.HasSlot slot) → d.raising ≡ raise.HasSlot slot) → d.step ≡ defer.Seeks
    → defer_ask (seek_ledto d ask) ≡ Done answer.Held → defer_asks_later (seek_ledto d ask) ≤ 3
unfolding seek_ledto deferring_ask deferring_asks_later raise_on raise_asks_left sum_left
held_of d (Done (raised.HasSlot slot)) has at e = rw (has slot refl) (omega arith)
held_of d (Done raised.Spent) has at e = cc
held_of d (Done its) has at e = cc
held_of d ask has at e = absurd (not_held (raise_ask d.raising) (rw at at e))

ended_not_held : (d : DeferState) (ask : Ask RaiseAnswer) (its : Deferred) → d.step ≡ defer.Raises its → defer_ask (raise_ledto its d ask) ≡ Done answer.Held → ⊥
unfolding raise_ledto deferring_ask
ended_not_held d (Done (raised.Raised slot epoch)) its at e = cc
ended_not_held d (Done other) its at e = cc
ended_not_held d ask its at e = not_held (raise_ask d.raising) (rw at at e)

armed_not_held : (epoch : ℕ) (ask : Ask (Unit {0})) → passed ask (answer.Armed epoch) ≡ Done answer.Held → ⊥
unfolding passed
armed_not_held epoch (Done its) e = cc
armed_not_held epoch ask e = cc

arm_not_held : (d : DeferState) (ask : Ask (Unit {0})) (epoch : ℕ) → defer_ask (arm_ledto epoch d ask) ≡ Done answer.Held → ⊥
unfolding arm_ledto deferring_ask
arm_not_held d (Done its) epoch e = cc
arm_not_held d ask epoch e = armed_not_held epoch (arm_ask d.arming) e

deferring_held : (d : DeferState) (step : Deferring) (reply : ℕ) → d.step ≡ step → 0 < deferring_asks_left d step → defer_ask (deferring_next d step reply) ≡ Done answer.Held → defer_asks_later (deferring_next d step reply) ≤ 3
unfolding deferring_asks_left deferring_next
deferring_held d (defer.Ended its) reply at some e = none some
deferring_held d defer.Seeks reply at some e = held_of (record d { raising = raise_next d.raising reply }) (raise_next_ask d.raising reply) (λ slot has. tells_slot d.raising reply slot has) at e
deferring_held d defer.Holds reply at some e = none some
deferring_held d (defer.Raises its) reply at some e = absurd (ended_not_held (record d { raising = raise_next d.raising reply }) (raise_next_ask d.raising reply) its at e)
deferring_held d (defer.Puts its slot epoch) reply at some e = absurd (arm_not_held (record d { arming = arm_next d.arming }) (arm_ask (arm_next d.arming)) epoch e)
deferring_held d (defer.Arms epoch) reply at some e = absurd (arm_not_held (record d { arming = arm_next d.arming }) (arm_ask (arm_next d.arming)) epoch e)

-- once a slot is held three asks come later
pub defer_held : (d : DeferState) (reply : ℕ) → 0 < defer_asks_left d → defer_ask (defer_next d reply) ≡ Done answer.Held → defer_asks_later (defer_next d reply) ≤ 3
defer_held d reply some e = deferring_held d d.step reply refl some e
