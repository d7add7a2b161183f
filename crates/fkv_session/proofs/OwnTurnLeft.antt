-- A turn that a session makes itself asks just where it has asks left, and each reply leaves fewer.
use Rattle.std.proofs.Common.{◌≡◌, ℕ, ◌+◌, ◌<◌, ◌≤◌, ◌∙◌, refl, sym, ap, arith, Bool, true, false}
use Rattle.std.specs.Prelude.{if◌then◌else◌, None}
use Rattle.fkv_base.specs.declared.shapes.Shape.{Shape}
use Rattle.fkv_plane.specs.declared.actions.Action.{Action}
use Rattle.fkv_plane.specs.declared.actions.Action.TheVariants as act
use Rattle.fkv_plane.specs.declared.asks.Ask.{Ask}
use Rattle.fkv_plane.specs.declared.asks.Ask.TheVariants.{Load, Store, Swap, Cas, Add, Max, Put, Take, Done}
use Rattle.fkv_plane.specs.Passing.{is_done, passed}
use Rattle.fkv_plane.proofs.Shown.{passed_done}
use Rattle.fkv_epoch.specs.declared.claiming.Claiming.{Claiming}
use Rattle.fkv_epoch.specs.declared.claiming.Claiming.TheVariants as claim
use Rattle.fkv_epoch.specs.Scanning.{scan_ask, scan_next, scan_asks_left}
use Rattle.fkv_epoch.specs.Claiming.{takes_action, claim_ask, claim_next, claim_given, claim_asks_left}
use Rattle.fkv_epoch.proofs.Shown.{scan_left, scan_fewer, claim_left, claim_fewer, claim_given_fewer}
use Rattle.fkv_epoch.specs.declared.arming.Arming.{Arming}
use Rattle.fkv_epoch.specs.declared.arming.Arming.TheVariants as arm
use Rattle.fkv_epoch.specs.declared.raising.Raising.{Raising}
use Rattle.fkv_epoch.specs.declared.raising.Raising.TheVariants as raise
use Rattle.fkv_epoch.specs.declared.scanning.Scanning.{Scanning}
use Rattle.fkv_epoch.specs.declared.scanning.Scanning.TheVariants as scan
use Rattle.fkv_epoch.specs.Arming.{arm_ask}
use Rattle.fkv_epoch.specs.Raising.{raise_ask}
use Rattle.fkv_log.specs.declared.moving.MoveAnswer.{MoveAnswer}
use Rattle.fkv_log.specs.declared.moving.MoveAnswer.TheVariants as moved
use Rattle.fkv_log.specs.declared.moving.Moving.{Moving}
use Rattle.fkv_log.specs.declared.moving.Moving.TheVariants as move
use Rattle.fkv_log.specs.declared.shifting.ShiftAnswer.TheVariants as answer
use Rattle.fkv_log.specs.declared.shifting.Shifting.{Shifting}
use Rattle.fkv_log.specs.declared.shifting.Shifting.TheVariants as shift
use Rattle.fkv_log.specs.declared.turning.Turning.{Turning}
use Rattle.fkv_log.specs.declared.turning.Turning.TheVariants as turn
use Rattle.fkv_log.specs.Moving.{Mover, move_ask, moving_ask}
use Rattle.fkv_log.specs.declared.shifting.ShiftAnswer.{ShiftAnswer}
use Rattle.fkv_log.specs.declared.turning.TurnForm.TheVariants.{OpensOnly}
use Rattle.fkv_log.specs.Shifting.{shift_begun, shifting_ask, shift_ask, shift_next, shift_next_ask, shift_asks_left}
use Rattle.fkv_log.specs.Turning.{turn_begun, turning_ask, turn_ask, turn_next, turn_next_ask, turn_asks_left}
use Rattle.fkv_log.proofs.Shown.{shift_fewer, shift_begun_left, turn_fewer, turn_begun_left}
use Rattle.fkv_plane.specs.AsksLeft.{AsksWhereLeft, sum_left}
use Rattle.fkv_session.specs.declared.own_turns.OwnTurning.{OwnTurning}
use Rattle.fkv_session.specs.declared.own_turns.OwnTurning.TheVariants.{Ended, Scans, Claims, Shifts, Opens}
use Rattle.fkv_session.specs.OwnTurns.{OwnTurnState, own_turn_begun, own_turning_ask, own_turn_ask, scan_ledto, claim_ledto, shift_ledto, open_ledto, tail_told, own_turning_next, own_turn_next, own_turning_given, own_turn_given}
use Rattle.fkv_session.specs.AsksLeft.{most_opening_asks, most_shift_asks, most_claim_asks, most_own_turn_asks, own_turning_asks_left, own_turn_asks_left}
use Rattle.fkv_plane.proofs.Shown.{passed_left, some_inside, inside_fewer, behind_fewer, sum_most, never, none}

if_most : (b : Bool) (n : ℕ) → (if b then 0 else n) ≤ n
if_most true n = omega arith
if_most false n = omega arith

-- it asks just where it has asks left

own_turning_left : (shape : Shape) (o : OwnTurnState) (step : OwnTurning) → AsksWhereLeft (own_turning_asks_left shape o step) (own_turning_ask shape o step)
unfolding own_turning_ask own_turning_asks_left
own_turning_left shape o Ended = (never, none)
own_turning_left shape o Scans =
    passed_left (scan_asks_left shape.sessions o.scanning) (most_claim_asks + (most_shift_asks + most_opening_asks)) (scan_ask o.scanning) (tt {0}) (scan_left shape.sessions o.scanning)
own_turning_left shape o Claims = passed_left (claim_asks_left o.claiming) (most_shift_asks + most_opening_asks) (claim_ask o.claiming) (tt {0}) (claim_left o.claiming)
own_turning_left shape o Shifts = tested (is_done (shift_ask o.shift)) (passed_done (shift_ask o.shift) (tt {0}))
  where
    tested : (b : Bool) → is_done (passed (shift_ask o.shift) (tt {0})) ≡ b → AsksWhereLeft (if b then 0 else shift_asks_left o.shift + most_opening_asks) (passed (shift_ask o.shift) (tt {0}))
    tested true e = (λ asks. never (sym e ∙ asks), none)
    tested false e = (λ asks. omega arith, λ some. e)
own_turning_left shape o Opens = tested (is_done (turn_ask shape o.turn)) refl
  where
    same : is_done (passed (turn_ask shape o.turn) (tt {0})) ≡ is_done (turn_ask shape o.turn)
    same = passed_done (turn_ask shape o.turn) (tt {0})

    tested : (b : Bool) → is_done (turn_ask shape o.turn) ≡ b → AsksWhereLeft (if b then 0 else turn_asks_left o.turn) (passed (turn_ask shape o.turn) (tt {0}))
    tested true e = (λ asks. never (sym e ∙ sym same ∙ asks), none)
    tested false e = (λ asks. let fewer = turn_fewer shape o.turn 0 e in omega (arith, fewer), λ some. same ∙ e)

pub own_turn_left : (shape : Shape) (o : OwnTurnState) → AsksWhereLeft (own_turn_asks_left shape o) (own_turn_ask shape o)
own_turn_left shape o = own_turning_left shape o o.step

pub own_turn_asked_left : (shape : Shape) (o : OwnTurnState) (ask : Ask (Unit {0})) → ask ≡ own_turn_ask shape o → AsksWhereLeft (own_turn_asks_left shape o) ask
own_turn_asked_left shape o ask e = rw e (own_turn_left shape o)

-- all of it
pub own_turn_begun_left : (shape : Shape) (o : OwnTurnState) → own_turn_asks_left shape (own_turn_begun o) ≤ most_own_turn_asks shape
unfolding own_turning_asks_left scan_asks_left
own_turn_begun_left shape o = let most = sum_most (shape.sessions + 2) (most_claim_asks + (most_shift_asks + most_opening_asks)) in omega (arith, most)

pub own_turn_begun_most : (shape : Shape) (o begun : OwnTurnState) → begun ≡ own_turn_begun o → own_turn_asks_left shape begun ≤ most_own_turn_asks shape
own_turn_begun_most shape o begun begins = rw begins (own_turn_begun_left shape o)

pub own_turn_most : (shape : Shape) → most_own_turn_asks shape ≤ 101
own_turn_most shape = let few = shape.limits.few_sessions in omega (arith, few)

-- one step, by what the machine inside has left

opens_left : (shape : Shape) (o : OwnTurnState) (tail : ℕ) → own_turn_asks_left shape (record o { turn = turn_begun OpensOnly tail; step = Opens }) ≤ most_opening_asks
unfolding own_turning_asks_left
opens_left shape o tail =
    let begun = turn_begun_left OpensOnly tail in
    let most = if_most (is_done (turn_ask shape (turn_begun OpensOnly tail))) (turn_asks_left (turn_begun OpensOnly tail)) in
    omega (arith, begun, most)

shifts_begun_left : (shape : Shape) (o : OwnTurnState) → own_turn_asks_left shape (record o { shift = shift_begun; step = Shifts }) ≤ most_shift_asks + most_opening_asks
unfolding own_turning_asks_left
shifts_begun_left shape o =
    let most = if_most (is_done (shift_ask shift_begun)) (shift_asks_left shift_begun + most_opening_asks) in
    let begun = shift_begun_left in
    omega (arith, begun, most)

claims_begun_left : (shape : Shape) (o : OwnTurnState) → own_turn_asks_left shape (record o { claiming = claim.MeetsSlot 0 None; step = Claims }) ≤ most_claim_asks + (most_shift_asks + most_opening_asks)
unfolding own_turning_asks_left claim_asks_left
claims_begun_left shape o = let most = sum_most most_claim_asks (most_shift_asks + most_opening_asks) in omega (arith, most)

inside_scan : (shape : Shape) (o : OwnTurnState) (old : ℕ) → o.step ≡ Scans → scan_asks_left shape.sessions o.scanning < old
    → own_turn_asks_left shape o < sum_left old (most_claim_asks + (most_shift_asks + most_opening_asks))
unfolding own_turning_asks_left
inside_scan shape o old at fewer = rw at (inside_fewer (scan_asks_left shape.sessions o.scanning) old (most_claim_asks + (most_shift_asks + most_opening_asks)) fewer)

scan_led : (shape : Shape) (o : OwnTurnState) (old : ℕ) (ask : Ask (Unit {0})) → o.step ≡ Scans → 0 < old → scan_asks_left shape.sessions o.scanning < old
    → own_turn_asks_left shape (scan_ledto o ask) < sum_left old (most_claim_asks + (most_shift_asks + most_opening_asks))
unfolding scan_ledto
scan_led shape o old (Done its) at some fewer = behind_fewer _ old (most_claim_asks + (most_shift_asks + most_opening_asks)) some (claims_begun_left shape o)
scan_led shape o old ask at some fewer = inside_scan shape o old at fewer

inside_claim : (shape : Shape) (o : OwnTurnState) (old : ℕ) → o.step ≡ Claims → claim_asks_left o.claiming < old → own_turn_asks_left shape o < sum_left old (most_shift_asks + most_opening_asks)
unfolding own_turning_asks_left
inside_claim shape o old at fewer = rw at (inside_fewer (claim_asks_left o.claiming) old (most_shift_asks + most_opening_asks) fewer)

claim_led : (shape : Shape) (o : OwnTurnState) (old : ℕ) (ask : Ask (Unit {0})) → o.step ≡ Claims → 0 < old → claim_asks_left o.claiming < old
    → own_turn_asks_left shape (claim_ledto o ask) < sum_left old (most_shift_asks + most_opening_asks)
unfolding claim_ledto
claim_led shape o old (Done its) at some fewer = behind_fewer _ old (most_shift_asks + most_opening_asks) some (shifts_begun_left shape o)
claim_led shape o old ask at some fewer = inside_claim shape o old at fewer

inside_shift : (shape : Shape) (o : OwnTurnState) (old : ℕ) → o.step ≡ Shifts → shift_asks_left o.shift < old → own_turn_asks_left shape o < old + most_opening_asks
unfolding own_turning_asks_left
inside_shift shape o old at fewer =
    let most = if_most (is_done (shift_ask o.shift)) (shift_asks_left o.shift + most_opening_asks) in
    rw at (omega (arith, most, fewer))

shift_led : (shape : Shape) (o : OwnTurnState) (old : ℕ) (ask : Ask ShiftAnswer) → o.step ≡ Shifts → shift_asks_left o.shift < old → own_turn_asks_left shape (shift_ledto o ask) < old + most_opening_asks
unfolding shift_ledto
shift_led shape o old (Done its) at fewer = let begun = opens_left shape o (tail_told its).0 in omega (arith, begun, fewer)
shift_led shape o old ask at fewer = inside_shift shape o old at fewer

inside_open : (shape : Shape) (o : OwnTurnState) (old : ℕ) → o.step ≡ Opens → turn_asks_left o.turn < old → own_turn_asks_left shape o < old
unfolding own_turning_asks_left
inside_open shape o old at fewer =
    let most = if_most (is_done (turn_ask shape o.turn)) (turn_asks_left o.turn) in
    rw at (omega (arith, most, fewer))

open_led : (shape : Shape) (o : OwnTurnState) (old : ℕ) (ask : Ask MoveAnswer) → o.step ≡ Opens → turn_asks_left o.turn < old → own_turn_asks_left shape (open_ledto o ask) < old
unfolding open_ledto own_turning_asks_left
open_led shape o old (Done its) at fewer = ended
  where
    ended : own_turn_asks_left shape (record o { step = Ended }) < old
    ended = omega (arith, fewer)
open_led shape o old ask at fewer = inside_open shape o old at fewer

pub passed_takes : {A B : Type 0} (ask : Ask A) (told : B) → takes_action (passed ask told) ≡ takes_action ask
unfolding passed
passed_takes (Load place) told = refl
passed_takes (Store place new) told = refl
passed_takes (Swap place new) told = refl
passed_takes (Cas place old new) told = refl
passed_takes (Add place k) told = refl
passed_takes (Max place k) told = refl
passed_takes (Put slot action) told = refl
passed_takes (Take slot) told = refl
passed_takes (Done inner) told = refl

own_turning_fewer : (shape : Shape) (o : OwnTurnState) (step : OwnTurning) (reply : ℕ) → o.step ≡ step → takes_action (own_turning_ask shape o step) ≡ false → 0 < own_turning_asks_left shape o step
    → own_turn_asks_left shape (own_turning_next shape o step reply) < own_turning_asks_left shape o step
unfolding own_turning_ask own_turning_next own_turning_asks_left
own_turning_fewer shape o Ended reply at takes some = none some
own_turning_fewer shape o Scans reply at takes some =
    let inside = some_inside (scan_asks_left shape.sessions o.scanning) (most_claim_asks + (most_shift_asks + most_opening_asks)) some in
    let fewer = scan_fewer shape.sessions o.scanning reply in
    scan_led shape (record o { scanning = scan_next shape.sessions o.scanning reply }) (scan_asks_left shape.sessions o.scanning) (scan_ask (scan_next shape.sessions o.scanning reply)) at inside (omega (arith, fewer, inside))
own_turning_fewer shape o Claims reply at takes some =
    let inside = some_inside (claim_asks_left o.claiming) (most_shift_asks + most_opening_asks) some in
    let fewer = claim_fewer o.claiming reply (sym (passed_takes (claim_ask o.claiming) (tt {0})) ∙ takes) in
    claim_led shape (record o { claiming = claim_next o.claiming reply }) (claim_asks_left o.claiming) (claim_ask (claim_next o.claiming reply)) at inside (omega (arith, fewer, inside))
own_turning_fewer shape o Shifts reply at takes some = tested (is_done (shift_ask o.shift)) refl some
  where
    tested : (b : Bool) → is_done (shift_ask o.shift) ≡ b → 0 < (if b then 0 else shift_asks_left o.shift + most_opening_asks)
        → own_turn_asks_left shape (shift_ledto (record o { shift = shift_next shape o.shift reply }) (shift_next_ask shape o.shift reply)) < (if b then 0 else shift_asks_left o.shift + most_opening_asks)
    tested true e some = none some
    tested false e some = shift_led shape (record o { shift = shift_next shape o.shift reply }) (shift_asks_left o.shift) (shift_next_ask shape o.shift reply) at (shift_fewer shape o.shift reply e)
own_turning_fewer shape o Opens reply at takes some = tested (is_done (turn_ask shape o.turn)) refl some
  where
    tested : (b : Bool) → is_done (turn_ask shape o.turn) ≡ b → 0 < (if b then 0 else turn_asks_left o.turn)
        → own_turn_asks_left shape (open_ledto (record o { turn = turn_next shape o.turn reply }) (turn_next_ask shape o.turn reply)) < (if b then 0 else turn_asks_left o.turn)
    tested true e some = none some
    tested false e some = open_led shape (record o { turn = turn_next shape o.turn reply }) (turn_asks_left o.turn) (turn_next_ask shape o.turn reply) at (turn_fewer shape o.turn reply e)

-- each reply leaves fewer, where it doesn't wait for an action
pub own_turn_fewer : (shape : Shape) (o : OwnTurnState) (reply : ℕ) → takes_action (own_turn_ask shape o) ≡ false → 0 < own_turn_asks_left shape o → own_turn_asks_left shape (own_turn_next shape o reply) < own_turn_asks_left shape o
own_turn_fewer shape o reply takes some = own_turning_fewer shape o o.step reply refl takes some

-- actions are claimed alone

scan_takes : (step : Scanning) → takes_action (scan_ask step) ≡ false
unfolding scan_ask
scan_takes scan.AtRest = refl
scan_takes step = refl

raise_takes : (step : Raising) → takes_action (raise_ask step) ≡ false
unfolding raise_ask
raise_takes raise.AtRest = refl
raise_takes step = refl

arm_takes : (step : Arming) → takes_action (arm_ask step) ≡ false
unfolding arm_ask
arm_takes arm.AtRest = refl
arm_takes step = refl

moving_takes : (step : Moving) (raising : Raising) (arming : Arming) → takes_action (moving_ask step raising arming) ≡ false
unfolding moving_ask
moving_takes (move.Raises target) raising arming = passed_takes (raise_ask raising) moved.Through ∙ raise_takes raising
moving_takes move.Arms raising arming = passed_takes (arm_ask arming) moved.Through ∙ arm_takes arming
moving_takes move.AtRest raising arming = refl
moving_takes step raising arming = refl

shifting_takes : (step : Shifting) (m : Mover) → takes_action (shifting_ask step m) ≡ false
unfolding shifting_ask
shifting_takes (shift.Moves tail) m = passed_takes (move_ask m) (answer.Through (record { 0 = tail })) ∙ moving_takes m.step m.raising m.arming
shifting_takes shift.AtRest m = refl
shifting_takes step m = refl

turning_takes : (shape : Shape) (step : Turning) (m : Mover) → takes_action (turning_ask shape step m) ≡ false
unfolding turning_ask
turning_takes shape turn.Moves m = passed_takes (move_ask m) moved.Through ∙ moving_takes m.step m.raising m.arming
turning_takes shape turn.AtRest m = refl
turning_takes shape step m = refl

taking_asks : {A : Type 0} (ask : Ask A) → takes_action ask ≡ true → is_done ask ≡ false
taking_asks (Done its) takes = cc
taking_asks ask takes = refl

-- so each action that it waits for leaves fewer, too
own_turning_given_fewer : (shape : Shape) (o : OwnTurnState) (step : OwnTurning) (action : Action) → o.step ≡ step → takes_action (own_turning_ask shape o step) ≡ true
    → own_turn_asks_left shape (own_turning_given o step action) < own_turning_asks_left shape o step
unfolding own_turning_ask own_turning_given own_turning_asks_left
own_turning_given_fewer shape o Ended action at takes = cc
own_turning_given_fewer shape o Scans action at takes = never (sym takes ∙ passed_takes (scan_ask o.scanning) (tt {0}) ∙ scan_takes o.scanning)
own_turning_given_fewer shape o Claims action at takes =
    let its = sym (passed_takes (claim_ask o.claiming) (tt {0})) ∙ takes in
    let inside = (claim_left o.claiming).0 (taking_asks (claim_ask o.claiming) its) in
    let fewer = claim_given_fewer o.claiming action its in
    claim_led shape (record o { claiming = claim_given o.claiming action }) (claim_asks_left o.claiming) (claim_ask (claim_given o.claiming action)) at inside (omega (arith, fewer, inside))
own_turning_given_fewer shape o Shifts action at takes = never (sym takes ∙ passed_takes (shift_ask o.shift) (tt {0}) ∙ shifting_takes o.shift.step o.shift.mover)
own_turning_given_fewer shape o Opens action at takes = never (sym takes ∙ passed_takes (turn_ask shape o.turn) (tt {0}) ∙ turning_takes shape o.turn.step o.turn.mover)

pub own_turn_given_fewer : (shape : Shape) (o : OwnTurnState) (action : Action) → takes_action (own_turn_ask shape o) ≡ true → own_turn_asks_left shape (own_turn_given o action) < own_turn_asks_left shape o
own_turn_given_fewer shape o action takes = own_turning_given_fewer shape o o.step action refl takes

-- a reply that comes in place of an action leaves the turn as it is, and so does an action that comes in place of a reply

claim_waits : (step : Claiming) (reply : ℕ) → takes_action (claim_ask step) ≡ true → claim_next step reply ≡ step
unfolding claim_ask claim_next
claim_waits (claim.Receives slot epoch safe) reply takes = refl
claim_waits (claim.Runs slot epoch safe (act.SafeReadOnly addr)) reply takes = cc
claim_waits (claim.Runs slot epoch safe (act.Close addr)) reply takes = cc
claim_waits (claim.Runs slot epoch safe (act.Phase phase version)) reply takes = cc
claim_waits step reply takes = cc

claim_spared : (step : Claiming) (action : Action) → takes_action (claim_ask step) ≡ false → claim_given step action ≡ step
unfolding claim_ask claim_given
claim_spared (claim.Receives slot epoch safe) action takes = cc
claim_spared step action takes = refl

claim_stays : (o : OwnTurnState) (ask : Ask (Unit {0})) → is_done ask ≡ false → claim_ledto o ask ≡ o
unfolding claim_ledto
claim_stays o (Done its) asks = cc
claim_stays o ask asks = refl

own_turning_waits : (shape : Shape) (o : OwnTurnState) (step : OwnTurning) (reply : ℕ) → takes_action (own_turning_ask shape o step) ≡ true → own_turning_next shape o step reply ≡ o
unfolding own_turning_ask own_turning_next
own_turning_waits shape o Ended reply takes = cc
own_turning_waits shape o Scans reply takes = never (sym takes ∙ passed_takes (scan_ask o.scanning) (tt {0}) ∙ scan_takes o.scanning)
own_turning_waits shape o Claims reply takes =
    let its = sym (passed_takes (claim_ask o.claiming) (tt {0})) ∙ takes in
    ap (λ (step : Claiming). claim_ledto (record o { claiming = step }) (claim_ask step)) (claim_waits o.claiming reply its) ∙ claim_stays o (claim_ask o.claiming) (taking_asks (claim_ask o.claiming) its)
own_turning_waits shape o Shifts reply takes = never (sym takes ∙ passed_takes (shift_ask o.shift) (tt {0}) ∙ shifting_takes o.shift.step o.shift.mover)
own_turning_waits shape o Opens reply takes = never (sym takes ∙ passed_takes (turn_ask shape o.turn) (tt {0}) ∙ turning_takes shape o.turn.step o.turn.mover)

pub own_turn_waits : (shape : Shape) (o : OwnTurnState) (reply : ℕ) → takes_action (own_turn_ask shape o) ≡ true → own_turn_next shape o reply ≡ o
own_turn_waits shape o reply takes = own_turning_waits shape o o.step reply takes

own_turning_spared : (shape : Shape) (o : OwnTurnState) (step : OwnTurning) (action : Action) → is_done (own_turning_ask shape o step) ≡ false → takes_action (own_turning_ask shape o step) ≡ false
    → own_turning_given o step action ≡ o
unfolding own_turning_ask own_turning_given
own_turning_spared shape o Claims action asks takes =
    let still = claim_spared o.claiming action (sym (passed_takes (claim_ask o.claiming) (tt {0})) ∙ takes) in
    ap (λ (step : Claiming). claim_ledto (record o { claiming = step }) (claim_ask step)) still ∙ claim_stays o (claim_ask o.claiming) (sym (passed_done (claim_ask o.claiming) (tt {0})) ∙ asks)
own_turning_spared shape o step action asks takes = refl

pub own_turn_spared : (shape : Shape) (o : OwnTurnState) (action : Action) → is_done (own_turn_ask shape o) ≡ false → takes_action (own_turn_ask shape o) ≡ false → own_turn_given o action ≡ o
own_turn_spared shape o action asks takes = own_turning_spared shape o o.step action asks takes
