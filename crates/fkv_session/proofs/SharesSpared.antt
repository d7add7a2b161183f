-- Besides tries and take-ups a session's machines add no share to any word, and take none off.
use Rattle.std.proofs.Common.{◌≡◌, ℕ, ◌-◌, ◌^◌, refl, Bool, true, false}
use Rattle.std.specs.Prelude.{◌==◌, ◌&&◌}
use Rattle.fkv_base.specs.declared.shapes.Shape.{Shape}
use Rattle.fkv_words.specs.Fields.{bit_of}
use Rattle.fkv_plane.specs.declared.actions.Action.{Action}
use Rattle.fkv_plane.specs.declared.actions.Action.TheVariants as act
use Rattle.fkv_plane.specs.declared.asks.Ask.{Ask}
use Rattle.fkv_plane.specs.declared.asks.Ask.TheVariants.{Add}
use Rattle.fkv_plane.specs.Passing.{passed}
use Rattle.fkv_epoch.specs.declared.arming.Arming.{Arming}
use Rattle.fkv_epoch.specs.declared.arming.Arming.TheVariants as arm
use Rattle.fkv_epoch.specs.declared.claiming.Claiming.{Claiming}
use Rattle.fkv_epoch.specs.declared.claiming.Claiming.TheVariants as claim
use Rattle.fkv_epoch.specs.declared.leaving.Leaving.{Leaving}
use Rattle.fkv_epoch.specs.declared.leaving.Leaving.TheVariants as leave
use Rattle.fkv_epoch.specs.declared.protecting.Protecting.{Protecting}
use Rattle.fkv_epoch.specs.declared.protecting.Protecting.TheVariants as protect
use Rattle.fkv_epoch.specs.declared.raising.Raising.{Raising}
use Rattle.fkv_epoch.specs.declared.raising.Raising.TheVariants as raise
use Rattle.fkv_epoch.specs.declared.refreshing.Refreshing.{Refreshing}
use Rattle.fkv_epoch.specs.declared.refreshing.Refreshing.TheVariants as refresh
use Rattle.fkv_epoch.specs.declared.scanning.Scanning.{Scanning}
use Rattle.fkv_epoch.specs.declared.scanning.Scanning.TheVariants as scan
use Rattle.fkv_epoch.specs.Arming.{arm_ask}
use Rattle.fkv_epoch.specs.Claiming.{run_of, claim_ask}
use Rattle.fkv_epoch.specs.Leaving.{leave_ask}
use Rattle.fkv_epoch.specs.Protecting.{protect_ask}
use Rattle.fkv_epoch.specs.Raising.{raise_ask}
use Rattle.fkv_epoch.specs.Refreshing.{refresh_ask}
use Rattle.fkv_epoch.specs.Scanning.{scan_ask}
use Rattle.fkv_latch.specs.Latching.{one_share}
use Rattle.fkv_log.specs.declared.moving.Moving.{Moving}
use Rattle.fkv_log.specs.declared.moving.Moving.TheVariants as move
use Rattle.fkv_log.specs.declared.shifting.Shifting.{Shifting}
use Rattle.fkv_log.specs.declared.shifting.Shifting.TheVariants as shift
use Rattle.fkv_log.specs.declared.turning.Turning.{Turning}
use Rattle.fkv_log.specs.declared.turning.Turning.TheVariants as turn
use Rattle.fkv_log.specs.Moving.{Mover, moving_ask}
use Rattle.fkv_log.specs.Shifting.{shifting_ask}
use Rattle.fkv_log.specs.Turning.{turning_ask}
use Rattle.fkv_pending.specs.declared.mailing.Mailing.{Mailing}
use Rattle.fkv_pending.specs.declared.mailing.Mailing.TheVariants as mail
use Rattle.fkv_pending.specs.Mailing.{mail_ask}
use Rattle.fkv_session.specs.declared.own_turns.OwnTurning.{OwnTurning}
use Rattle.fkv_session.specs.declared.own_turns.OwnTurning.TheVariants.{Ended, Scans, Claims, Shifts, Opens}
use Rattle.fkv_session.specs.OwnTurns.{OwnTurnState, own_turning_ask, own_turn_ask}
use Rattle.fkv_session.specs.Shares.{added_by}

-- the ask adds no share and takes none off
abbrev pub SharesNone : {A : Type 0} → Ask A → Type 0
SharesNone (Add place number) = ((number == one_share) ≡ false) × ((number == 2 ^ 64 - one_share) ≡ false)
SharesNone ask = Unit {0}

not_added : (a b : Bool) → a ≡ false → bit_of (a && b) ≡ 0
not_added true b e = cc
not_added false b e = refl

pub none_added : {A : Type 0} (at : ℕ) (ask : Ask A) → SharesNone ask → added_by one_share at ask ≡ 0
none_added at (Add place number) none = not_added (number == one_share) (place == at) none.0
none_added at ask none = refl

pub none_dropped : {A : Type 0} (at : ℕ) (ask : Ask A) → SharesNone ask → added_by (2 ^ 64 - one_share) at ask ≡ 0
none_dropped at (Add place number) none = not_added (number == 2 ^ 64 - one_share) (place == at) none.1
none_dropped at ask none = refl

-- what is passed on adds as much
pub passed_added : {A B : Type 0} (number at : ℕ) (ask : Ask A) (its : B) → added_by number at (passed ask its) ≡ added_by number at ask
unfolding passed
passed_added number at (Add place word) its = refl
passed_added number at ask its = refl

pub passed_none : {A B : Type 0} (ask : Ask A) (its : B) → SharesNone ask → SharesNone (passed ask its)
unfolding passed
passed_none (Add place number) its none = none
passed_none ask its none = tt

pub refresh_none : (n : ℕ) (step : Refreshing) → SharesNone (refresh_ask n step)
unfolding refresh_ask
refresh_none n (refresh.StoresEpoch epoch) = tt
refresh_none n step = tt

pub protect_none : (n : ℕ) (step : Protecting) → SharesNone (protect_ask n step)
unfolding protect_ask
protect_none n (protect.StoresEpoch epoch) = tt
protect_none n step = tt

pub leave_none : (n : ℕ) (step : Leaving) → SharesNone (leave_ask n step)
unfolding leave_ask
leave_none n leave.StoresZero = tt
leave_none n leave.AtRest = tt

pub mail_none : (n : ℕ) (step : Mailing) → SharesNone (mail_ask n step)
unfolding mail_ask
mail_none n (mail.StoresEmpty its) = tt
mail_none n (mail.StoresAddress addr) = tt
mail_none n mail.StoresAsked = tt
mail_none n step = tt

scan_none : (step : Scanning) → SharesNone (scan_ask step)
unfolding scan_ask
scan_none scan.AtRest = tt
scan_none step = tt

run_none : (action : Action) → SharesNone (run_of action)
run_none (act.Phase phase version) = tt
run_none (act.SafeReadOnly addr) = tt
run_none (act.Close addr) = tt

claim_none : (step : Claiming) → SharesNone (claim_ask step)
unfolding claim_ask
claim_none (claim.Runs slot epoch safe action) = run_none action
claim_none (claim.FreesSlot slot safe) = tt
claim_none step = tt

raise_none : (step : Raising) → SharesNone (raise_ask step)
unfolding raise_ask
raise_none (raise.RaisesEpoch slot) = (refl, refl)
raise_none raise.AtRest = tt
raise_none step = tt

arm_none : (step : Arming) → SharesNone (arm_ask step)
unfolding arm_ask
arm_none arm.AtRest = tt
arm_none (arm.PutsAction slot epoch) = tt
arm_none (arm.StoresEpoch slot epoch) = tt

move_none : (step : Moving) (raising : Raising) (arming : Arming) → SharesNone (moving_ask step raising arming)
unfolding moving_ask
move_none move.AtRest raising arming = tt
move_none (move.Raises target) raising arming = passed_none _ _ (raise_none raising)
move_none (move.MovesOffset target) raising arming = tt
move_none (move.Puts target slot) raising arming = tt
move_none move.Arms raising arming = passed_none _ _ (arm_none arming)

shift_none : (step : Shifting) (m : Mover) → SharesNone (shifting_ask step m)
unfolding shifting_ask
shift_none (shift.Moves tail) m = passed_none _ _ (move_none m.step m.raising m.arming)
shift_none shift.AtRest m = tt
shift_none shift.LoadsTail m = tt
shift_none (shift.LoadsReadOnly tail) m = tt

turn_none : (shape : Shape) (step : Turning) (m : Mover) → SharesNone (turning_ask shape step m)
unfolding turning_ask
turn_none shape turn.AtRest m = tt
turn_none shape (turn.LoadsLimit form tail) m = tt
turn_none shape (turn.LoadsClosed form limit) m = tt
turn_none shape (turn.RaisesLimit limit) m = tt
turn_none shape (turn.LoadsHead end) m = tt
turn_none shape (turn.LoadsFlushed end) m = tt
turn_none shape turn.Moves m = passed_none _ _ (move_none m.step m.raising m.arming)

own_none : (shape : Shape) (o : OwnTurnState) (step : OwnTurning) → SharesNone (own_turning_ask shape o step)
unfolding own_turning_ask
own_none shape o Ended = tt
own_none shape o Scans = passed_none _ _ (scan_none o.scanning)
own_none shape o Claims = passed_none _ _ (claim_none o.claiming)
own_none shape o Shifts = passed_none _ _ (shift_none o.shift.step o.shift.mover)
own_none shape o Opens = passed_none _ _ (turn_none shape o.turn.step o.turn.mover)

pub own_turn_none : (shape : Shape) (o : OwnTurnState) → SharesNone (own_turn_ask shape o)
own_turn_none shape o = own_none shape o o.step
