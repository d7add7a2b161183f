-- A session's own turn spares each part.
use Rattle.std.proofs.Common.{◌≡◌, ℕ, refl, sym, subst, arith, Bool, false}
use Rattle.std.specs.Prelude.{⊤}
use Rattle.fkv_base.specs.declared.shapes.Shape.{Shape}
use Rattle.fkv_plane.specs.declared.actions.Action.{Action}
use Rattle.fkv_plane.specs.declared.asks.Ask.{Ask}
use Rattle.fkv_plane.specs.declared.asks.Ask.TheVariants.{Done}
use Rattle.fkv_plane.specs.declared.places.Places.{Places}
use Rattle.fkv_epoch.specs.Claiming.{IsClaimInRange, claim_next, claim_given}
use Rattle.fkv_epoch.specs.Scanning.{scan_next}
use Rattle.law_world.specs.Below.fkv_log.MoveAnswer.{MoveAnswer}
use Rattle.law_world.specs.Below.fkv_log.ShiftAnswer.{ShiftAnswer}
use Rattle.law_world.specs.Below.fkv_log.Shifting.{shift_next}
use Rattle.law_world.specs.Below.fkv_log.Turning.{turn_next}
use Rattle.law_world.specs.Below.fkv_session.OwnTurning.{OwnTurning}
use Rattle.law_world.specs.Below.fkv_session.OwnTurning.TheVariants.{Ended, Scans, Claims, Shifts, Opens}
use Rattle.law_world.specs.Below.fkv_session.OwnTurns.{OwnTurnState, own_turn_begun, own_turning_ask, own_turn_ask, scan_ledto, claim_ledto, shift_ledto, open_ledto, own_turning_next, own_turn_next, own_turning_given, own_turn_given}
use Rattle.law_refine.specs.Footprint.{Part, ThePhase, Spares, stores_phase}
use Rattle.law_refine.proofs.Footprint.Latching.{passed_spares}
use Rattle.law_refine.proofs.Footprint.Epochs.{scan_spares, claim_spares, claim_range, claim_given_range}
use Rattle.law_refine.proofs.Footprint.Moves.{IsShiftInRange, shift_spares, shift_range, IsTurnInRange, turn_spares, turn_range}

-- its drain slots are those that there are
abbrev pub TurnBounds : OwnTurnState → OwnTurning → Type 0
TurnBounds o Claims = IsClaimInRange o.claiming
TurnBounds o Shifts = IsShiftInRange o.shift
TurnBounds o Opens = IsTurnInRange o.turn
TurnBounds o step = ⊤

abbrev pub IsOwnTurnSparing : OwnTurnState → Type 0
IsOwnTurnSparing o = TurnBounds o o.step

-- it is about to store a phase
abbrev pub turn_stores : OwnTurnState → OwnTurning → Bool
turn_stores o Claims = stores_phase o.claiming
turn_stores o step = false

-- what it asks for
turning_spares : (part : Part) (p : Places) (shape : Shape) (o : OwnTurnState) (step : OwnTurning) → TurnBounds o step → (part ≡ ThePhase → turn_stores o step ≡ false) → Spares part p (own_turning_ask shape o step)
unfolding own_turning_ask
turning_spares part p shape o Ended bounds none = tt
turning_spares part p shape o Scans bounds none = passed_spares part p _ _ (scan_spares part p o.scanning)
turning_spares part p shape o Claims bounds none = passed_spares part p _ _ (claim_spares part p o.claiming bounds none)
turning_spares part p shape o Shifts bounds none = passed_spares part p _ _ (shift_spares part p o.shift bounds)
turning_spares part p shape o Opens bounds none = passed_spares part p _ _ (turn_spares part p shape o.turn bounds)

pub own_turn_spares : (part : Part) (p : Places) (shape : Shape) (o : OwnTurnState) → IsOwnTurnSparing o → (part ≡ ThePhase → turn_stores o o.step ≡ false) → Spares part p (own_turn_ask shape o)
own_turn_spares part p shape o bounds none = turning_spares part p shape o o.step bounds none

stays_spares : (o : OwnTurnState) (step : OwnTurning) → o.step ≡ step → TurnBounds o step → IsOwnTurnSparing o
stays_spares o step at bounds = subst (λ x. TurnBounds o x) (sym at) bounds

scanned : (o : OwnTurnState) (ask : Ask (Unit {0})) → o.step ≡ Scans → IsOwnTurnSparing (scan_ledto o ask)
unfolding scan_ledto
scanned o (Done its) at = omega arith
scanned o ask at = stays_spares o Scans at tt

claimed : (o : OwnTurnState) (ask : Ask (Unit {0})) → o.step ≡ Claims → IsClaimInRange o.claiming → IsOwnTurnSparing (claim_ledto o ask)
unfolding claim_ledto
claimed o (Done its) at range = tt
claimed o ask at range = stays_spares o Claims at range

shifted : (o : OwnTurnState) (ask : Ask ShiftAnswer) → o.step ≡ Shifts → IsShiftInRange o.shift → IsOwnTurnSparing (shift_ledto o ask)
unfolding shift_ledto
shifted o (Done its) at range = tt
shifted o ask at range = stays_spares o Shifts at range

opened : (o : OwnTurnState) (ask : Ask MoveAnswer) → o.step ≡ Opens → IsTurnInRange o.turn → IsOwnTurnSparing (open_ledto o ask)
unfolding open_ledto
opened o (Done its) at range = tt
opened o ask at range = stays_spares o Opens at range

next_spares : (shape : Shape) (o : OwnTurnState) (step : OwnTurning) (reply : ℕ) → o.step ≡ step → TurnBounds o step → IsOwnTurnSparing (own_turning_next shape o step reply)
unfolding own_turning_next
next_spares shape o Ended reply at bounds = stays_spares o Ended at bounds
next_spares shape o Scans reply at bounds = scanned (record o { scanning = scan_next shape.sessions o.scanning reply }) _ at
next_spares shape o Claims reply at bounds = claimed (record o { claiming = claim_next o.claiming reply }) _ at (claim_range o.claiming reply bounds)
next_spares shape o Shifts reply at bounds = shifted (record o { shift = shift_next shape o.shift reply }) _ at (shift_range shape o.shift reply bounds)
next_spares shape o Opens reply at bounds = opened (record o { turn = turn_next shape o.turn reply }) _ at (turn_range shape o.turn reply bounds)

-- each reply, and each action
pub own_turn_next_spares : (shape : Shape) (o : OwnTurnState) (reply : ℕ) → IsOwnTurnSparing o → IsOwnTurnSparing (own_turn_next shape o reply)
own_turn_next_spares shape o reply bounds = next_spares shape o o.step reply refl bounds

given_spares : (o : OwnTurnState) (step : OwnTurning) (action : Action) → o.step ≡ step → TurnBounds o step → IsOwnTurnSparing (own_turning_given o step action)
unfolding own_turning_given
given_spares o Claims action at bounds = claimed (record o { claiming = claim_given o.claiming action }) _ at (claim_given_range o.claiming action bounds)
given_spares o step action at bounds = stays_spares o step at bounds

pub own_turn_given_spares : (o : OwnTurnState) (action : Action) → IsOwnTurnSparing o → IsOwnTurnSparing (own_turn_given o action)
own_turn_given_spares o action bounds = given_spares o o.step action refl bounds

pub own_turn_begun_spares : (o : OwnTurnState) → IsOwnTurnSparing (own_turn_begun o)
own_turn_begun_spares o = tt
