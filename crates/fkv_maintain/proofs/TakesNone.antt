-- Of the machines inside a turn only the one that claims waits for actions.
use Rattle.std.proofs.Common.{◌≡◌, ◌∙◌, refl, true, false}
use Rattle.fkv_base.specs.declared.shapes.Shape.{Shape}
use Rattle.fkv_plane.specs.declared.asks.Ask.{Ask}
use Rattle.fkv_plane.specs.declared.asks.Ask.TheVariants.{Load, Store, Swap, Cas, Add, Max, Put, Take, Done}
use Rattle.fkv_plane.specs.declared.places.Places.{Places}
use Rattle.fkv_plane.specs.Passing.{is_done, passed}
use Rattle.fkv_epoch.specs.declared.arming.Arming.{Arming}
use Rattle.fkv_epoch.specs.declared.arming.Arming.TheVariants as arm
use Rattle.fkv_epoch.specs.declared.raising.Raising.{Raising}
use Rattle.fkv_epoch.specs.declared.raising.Raising.TheVariants as raise
use Rattle.fkv_epoch.specs.declared.scanning.Scanning.{Scanning}
use Rattle.fkv_epoch.specs.declared.scanning.Scanning.TheVariants as scan
use Rattle.fkv_epoch.specs.Arming.{arm_ask}
use Rattle.fkv_epoch.specs.Claiming.{takes_action}
use Rattle.fkv_epoch.specs.Raising.{raise_ask}
use Rattle.fkv_epoch.specs.Scanning.{scan_ask}
use Rattle.fkv_log.specs.declared.moving.MoveAnswer.TheVariants as moved
use Rattle.fkv_log.specs.declared.moving.Moving.{Moving}
use Rattle.fkv_log.specs.declared.moving.Moving.TheVariants as move
use Rattle.fkv_log.specs.declared.shifting.ShiftAnswer.TheVariants as answer
use Rattle.fkv_log.specs.declared.shifting.Shifting.{Shifting}
use Rattle.fkv_log.specs.declared.shifting.Shifting.TheVariants as shift
use Rattle.fkv_log.specs.declared.turning.Turning.{Turning}
use Rattle.fkv_log.specs.declared.turning.Turning.TheVariants as turn
use Rattle.fkv_log.specs.Moving.{Mover, move_ask, moving_ask}
use Rattle.fkv_log.specs.Shifting.{ShiftState, shifting_ask, shift_ask}
use Rattle.fkv_log.specs.Turning.{TurnState, turning_ask, turn_ask}
use Rattle.fkv_flush.specs.declared.flushing.Flushing.{Flushing}
use Rattle.fkv_flush.specs.declared.flushing.Flushing.TheVariants as flush
use Rattle.fkv_flush.specs.declared.serving.Serving.{Serving}
use Rattle.fkv_flush.specs.declared.serving.Serving.TheVariants as serve
use Rattle.fkv_flush.specs.Flushing.{flush_ask}
use Rattle.fkv_flush.specs.Serving.{serve_ask}

pub passed_takes : {A B : Type 0} (ask : Ask A) (told : B) → takes_action (passed ask told) ≡ takes_action ask
unfolding passed
passed_takes (Load place) told = refl
passed_takes (Store place new) told = refl
passed_takes (Swap place new) told = refl
passed_takes (Cas place old new) told = refl
passed_takes (Add place k) told = refl
passed_takes (Max place k) told = refl
passed_takes (Put slot action) told = refl
passed_takes (Take slot) told = refl
passed_takes (Done inner) told = refl

pub taking_asks : {A : Type 0} (ask : Ask A) → takes_action ask ≡ true → is_done ask ≡ false
taking_asks (Done its) takes = cc
taking_asks ask takes = refl

pub scan_takes : (step : Scanning) → takes_action (scan_ask step) ≡ false
unfolding scan_ask
scan_takes scan.AtRest = refl
scan_takes step = refl

pub raise_takes : (step : Raising) → takes_action (raise_ask step) ≡ false
unfolding raise_ask
raise_takes raise.AtRest = refl
raise_takes step = refl

pub arm_takes : (step : Arming) → takes_action (arm_ask step) ≡ false
unfolding arm_ask
arm_takes arm.AtRest = refl
arm_takes step = refl

moving_takes : (step : Moving) (raising : Raising) (arming : Arming) → takes_action (moving_ask step raising arming) ≡ false
unfolding moving_ask
moving_takes (move.Raises target) raising arming = passed_takes (raise_ask raising) moved.Through ∙ raise_takes raising
moving_takes move.Arms raising arming = passed_takes (arm_ask arming) moved.Through ∙ arm_takes arming
moving_takes move.AtRest raising arming = refl
moving_takes step raising arming = refl

shifting_takes : (step : Shifting) (m : Mover) → takes_action (shifting_ask step m) ≡ false
unfolding shifting_ask
shifting_takes (shift.Moves tail) m = passed_takes (move_ask m) (answer.Through (record { 0 = tail })) ∙ moving_takes m.step m.raising m.arming
shifting_takes shift.AtRest m = refl
shifting_takes step m = refl

pub shift_takes : (s : ShiftState) → takes_action (shift_ask s) ≡ false
shift_takes s = shifting_takes s.step s.mover

turning_takes : (shape : Shape) (step : Turning) (m : Mover) → takes_action (turning_ask shape step m) ≡ false
unfolding turning_ask
turning_takes shape turn.Moves m = passed_takes (move_ask m) moved.Through ∙ moving_takes m.step m.raising m.arming
turning_takes shape turn.AtRest m = refl
turning_takes shape step m = refl

pub turn_takes : (shape : Shape) (s : TurnState) → takes_action (turn_ask shape s) ≡ false
turn_takes shape s = turning_takes shape s.step s.mover

pub flush_takes : (p : Places) (step : Flushing) → takes_action (flush_ask p step) ≡ false
unfolding flush_ask
flush_takes p flush.AtRest = refl
flush_takes p step = refl

pub serve_takes : (step : Serving) → takes_action (serve_ask step) ≡ false
unfolding serve_ask
serve_takes serve.AtRest = refl
serve_takes step = refl
