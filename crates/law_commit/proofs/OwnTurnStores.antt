-- A session stores in its own turn no phase but one that an action says which it has claimed.
use Rattle.std.proofs.Common.{◌≡◌, ◌⊎◌, inl, inr, refl, arith}
use Rattle.fkv_base.specs.declared.shapes.Shape.{Shape}
use Rattle.fkv_plane.specs.declared.actions.Action.TheVariants as act
use Rattle.fkv_plane.specs.declared.asks.Ask.{Ask}
use Rattle.fkv_plane.specs.declared.asks.Ask.TheVariants.{Load, Store, Swap, Cas, Add, Max, Put, Take, Done}
use Rattle.fkv_plane.specs.declared.places.SharedWord.TheVariants as one
use Rattle.fkv_plane.specs.Passing.{passed}
use Rattle.fkv_plane.specs.Places.{shared_place}
use Rattle.fkv_epoch.specs.declared.arming.Arming.{Arming}
use Rattle.fkv_epoch.specs.declared.arming.Arming.TheVariants as arm
use Rattle.fkv_epoch.specs.declared.claiming.Claiming.{Claiming}
use Rattle.fkv_epoch.specs.declared.claiming.Claiming.TheVariants as claim
use Rattle.fkv_epoch.specs.declared.raising.Raising.{Raising}
use Rattle.fkv_epoch.specs.declared.raising.Raising.TheVariants as raise
use Rattle.fkv_epoch.specs.declared.scanning.Scanning.{Scanning}
use Rattle.fkv_epoch.specs.declared.scanning.Scanning.TheVariants as scan
use Rattle.fkv_epoch.specs.Arming.{arm_ask}
use Rattle.fkv_epoch.specs.Claiming.{claim_ask}
use Rattle.fkv_epoch.specs.Raising.{raise_ask}
use Rattle.fkv_epoch.specs.Scanning.{scan_ask}
use Rattle.law_refine.specs.Below.fkv_log.TheMoving.{Moving}
use Rattle.law_refine.specs.Below.fkv_log.TheMoving.TheVariants as move
use Rattle.law_refine.specs.Below.fkv_log.Offset.{Offset}
use Rattle.law_refine.specs.Below.fkv_log.Offset.TheVariants as offset
use Rattle.law_refine.specs.Below.fkv_log.TheShifting.{Shifting}
use Rattle.law_refine.specs.Below.fkv_log.TheShifting.TheVariants as shift
use Rattle.law_refine.specs.Below.fkv_log.TheTurning.{Turning}
use Rattle.law_refine.specs.Below.fkv_log.TheTurning.TheVariants as turn
use Rattle.law_refine.specs.Below.fkv_log.Moving.{Mover, move_ask, moving_ask, offset_place}
use Rattle.law_refine.specs.Below.fkv_log.Shifting.{shifting_ask}
use Rattle.law_refine.specs.Below.fkv_log.Turning.{turning_ask}
use Rattle.law_refine.specs.Below.fkv_session.OwnTurning.{OwnTurning}
use Rattle.law_refine.specs.Below.fkv_session.OwnTurning.TheVariants.{Ended, Scans, Claims, Shifts, Opens}
use Rattle.law_refine.specs.Below.fkv_session.OwnTurns.{OwnTurnState, own_turn_ask, own_turning_ask}
use Rattle.law_commit.specs.PhaseStores.{SparesPhase, StoresClaimed}

passed_spares : {A B : Type 0} (ask : Ask A) (its : B) → SparesPhase ask → SparesPhase (passed ask its)
unfolding passed
passed_spares (Load place) its spares = tt
passed_spares (Store place new) its spares = spares
passed_spares (Swap place new) its spares = spares
passed_spares (Cas place old new) its spares = spares
passed_spares (Add place k) its spares = spares
passed_spares (Max place k) its spares = spares
passed_spares (Put slot action) its spares = tt
passed_spares (Take slot) its spares = tt
passed_spares (Done inner) its spares = tt

scan_spares : (step : Scanning) → SparesPhase (scan_ask step)
unfolding scan_ask
scan_spares scan.AtRest = tt
scan_spares scan.LoadsEpoch = tt
scan_spares (scan.LoadsSession session least) = tt
scan_spares (scan.RaisesSafe least) = λ e. cc

raise_spares : (step : Raising) → SparesPhase (raise_ask step)
unfolding raise_ask
raise_spares raise.AtRest = tt
raise_spares raise.LoadsEpoch = tt
raise_spares (raise.MeetsSlot slot) = tt
raise_spares (raise.HoldsSlot slot) = λ e. omega (arith, e)
raise_spares (raise.HasSlot slot) = tt
raise_spares (raise.RaisesEpoch slot) = λ e. cc

arm_spares : (step : Arming) → SparesPhase (arm_ask step)
unfolding arm_ask
arm_spares arm.AtRest = tt
arm_spares (arm.PutsAction slot epoch) = tt
arm_spares (arm.StoresEpoch slot epoch) = λ e. omega (arith, e)

offset_spares : (its : Offset) → shared_place one.Phase ≡ offset_place its → ⊥
offset_spares offset.ReadOnly e = cc
offset_spares offset.Head e = cc

moving_spares : (step : Moving) (raising : Raising) (arming : Arming) → SparesPhase (moving_ask step raising arming)
unfolding moving_ask
moving_spares move.AtRest raising arming = tt
moving_spares (move.Raises target) raising arming = passed_spares (raise_ask raising) _ (raise_spares raising)
moving_spares (move.MovesOffset target) raising arming = offset_spares target.offset
moving_spares (move.Puts target slot) raising arming = tt
moving_spares move.Arms raising arming = passed_spares (arm_ask arming) _ (arm_spares arming)

move_spares : (m : Mover) → SparesPhase (move_ask m)
move_spares m = moving_spares m.step m.raising m.arming

shift_spares : (step : Shifting) (m : Mover) → SparesPhase (shifting_ask step m)
unfolding shifting_ask
shift_spares shift.AtRest m = tt
shift_spares shift.LoadsTail m = tt
shift_spares (shift.LoadsReadOnly tail) m = tt
shift_spares (shift.Moves tail) m = passed_spares (move_ask m) _ (move_spares m)

turn_spares : (shape : Shape) (step : Turning) (m : Mover) → SparesPhase (turning_ask shape step m)
unfolding turning_ask
turn_spares shape turn.AtRest m = tt
turn_spares shape (turn.LoadsLimit form tail) m = tt
turn_spares shape (turn.LoadsClosed form limit) m = tt
turn_spares shape (turn.RaisesLimit limit) m = λ e. cc
turn_spares shape (turn.LoadsHead end) m = tt
turn_spares shape (turn.LoadsFlushed end) m = tt
turn_spares shape turn.Moves m = passed_spares (move_ask m) _ (move_spares m)

-- the claims: what runs is an action
Claimed : Shape → OwnTurnState → Type 0
Claimed shape o = SparesPhase (own_turn_ask shape o) ⊎ StoresClaimed shape o

claim_stores : (shape : Shape) (o : OwnTurnState) (step : Claiming) → o.step ≡ Claims → o.claiming ≡ step → Claimed shape o
unfolding Claimed own_turning_ask claim_ask passed
claim_stores shape o claim.AtRest e f = rw (e, f) (inl tt)
claim_stores shape o (claim.MeetsSlot slot safe) e f = rw (e, f) (inl tt)
claim_stores shape o (claim.LoadsSafe slot word) e f = rw (e, f) (inl tt)
claim_stores shape o (claim.TakesSlot slot word safe) e f = inl (rw (e, f) (λ g. omega (arith, g)))
claim_stores shape o (claim.Receives slot epoch safe) e f = rw (e, f) (inl tt)
claim_stores shape o (claim.Runs slot epoch safe (act.SafeReadOnly addr)) e f = inl (rw (e, f) (λ g. cc))
claim_stores shape o (claim.Runs slot epoch safe (act.Close addr)) e f = inl (rw (e, f) (λ g. cc))
claim_stores shape o (claim.Runs slot epoch safe (act.Phase its version)) e f =
    inr (record { its = its; version = version; slot = slot; epoch = epoch; safe = safe; claims = e; runs = f; asks = rw (e, f) refl })
claim_stores shape o (claim.FreesSlot slot safe) e f = inl (rw (e, f) (λ g. omega (arith, g)))

own_stores : (shape : Shape) (o : OwnTurnState) (step : OwnTurning) → o.step ≡ step → Claimed shape o
unfolding Claimed own_turning_ask
own_stores shape o Ended e = inl (rw e tt)
own_stores shape o Scans e = inl (rw e (passed_spares (scan_ask o.scanning) tt (scan_spares o.scanning)))
own_stores shape o Claims e = claim_stores shape o o.claiming e refl
own_stores shape o Shifts e = inl (rw e (passed_spares _ tt (shift_spares o.shift.step o.shift.mover)))
own_stores shape o Opens e = inl (rw e (passed_spares _ tt (turn_spares shape o.turn.step o.turn.mover)))

pub own_turn_stores : (shape : Shape) (o : OwnTurnState) → SparesPhase (own_turn_ask shape o) ⊎ StoresClaimed shape o
unfolding Claimed
own_turn_stores shape o = own_stores shape o o.step refl
