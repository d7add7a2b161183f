-- What a turn of a page shows of its machine of the epochs, and that it goes on behind an action that is put.
use Rattle.std.proofs.Common.{◌≡◌, ℕ, List, inl, inr, refl, sym, ap, ◌∙◌, true, false}
use Rattle.std.specs.Prelude.{Option}
use Rattle.fkv_base.specs.declared.shapes.Shape.{Shape}
use Rattle.fkv_plane.specs.declared.actions.Action.{Action}
use Rattle.fkv_plane.specs.declared.asks.Ask.{Ask}
use Rattle.fkv_plane.specs.declared.asks.Ask.TheVariants.{Done}
use Rattle.fkv_plane.specs.Passing.{passed, is_done}
use Rattle.fkv_plane.proofs.Shown.{passed_done}
use Rattle.fkv_epoch.specs.EpochWorld.{EpochMachine}
use Rattle.fkv_log.specs.declared.moving.MoveAnswer.{MoveAnswer}
use Rattle.fkv_log.specs.declared.turning.Turning.{Turning}
use Rattle.fkv_log.specs.declared.turning.Turning.TheVariants as turn
use Rattle.fkv_log.specs.Moving.{Mover, move_ask, move_next, move_next_ask}
use Rattle.fkv_log.specs.Turning.{TurnState, turn_at, turn_next, turn_next_ask, turn_ask, turning_ask, turning_next, turning_next_ask, turn_led, turn_told}
use Rattle.fkv_log.proofs.Shown.{move_goes_on, turn_asks}
use Rattle.fkv_flush.specs.GuardLevels.{Levels}
use Rattle.fkv_flush.specs.GuardWorld.{Turns, is_idle, turn_rests, actions_after}
use Rattle.fkv_flush.proofs.Shown.{FitsMachine, TurnKnows}
use Rattle.law_world.specs.GuardKeeper.MaintainShown.{turn_machine}
use Rattle.law_world.proofs.OfGuardSessions.Movers.{clash, move_fits, under_way}

pub turn_fits : (shape : Shape) (l : Levels) (d : EpochMachine) (step : Turning) (m : Mover) → TurnKnows shape l d step m → turn_rests step ≡ false → FitsMachine (turn_machine step m) d
turn_fits shape l d turn.AtRest m k e = cc
turn_fits shape l d (turn.LoadsLimit form tail) m k e = k.1
turn_fits shape l d (turn.LoadsClosed form limit) m k e = k.0.1
turn_fits shape l d (turn.RaisesLimit limit) m k e = k.0.1
turn_fits shape l d (turn.LoadsHead end) m k e = k.1
turn_fits shape l d (turn.LoadsFlushed end) m k e = k.1
turn_fits shape l d turn.Moves m k e = move_fits l d m.step m.raising m.arming k

-- at rest nothing is put
turning_rests : (shape : Shape) (actions : List (Option Action)) (step : Turning) (m : Mover) → turn_rests step ≡ true → actions_after actions (turning_ask shape step m) ≡ actions
unfolding turning_ask
turning_rests shape actions turn.AtRest m e = refl
turning_rests shape actions step m e = cc

pub turn_rests_so : (shape : Shape) (actions : List (Option Action)) (t : TurnState) → is_idle (Turns t) ≡ true → actions_after actions (turn_ask shape t) ≡ actions
turn_rests_so shape actions t e = turning_rests shape actions t.step t.mover e

-- who is told an end is at rest
turn_told_rests : (shape : Shape) (m : Mover) (ask : Ask MoveAnswer) → (is_done ask ≡ false → ask ≡ move_ask m) → is_done (turn_told shape ask (turn_led m ask)) ≡ true → turn_rests (turn_led m ask).step ≡ true
unfolding turn_told turn_led turning_ask
turn_told_rests shape m (Done inner) h e = refl
turn_told_rests shape m ask h e = clash (is_done (passed (move_ask m) _)) e (passed_done (move_ask m) _ ∙ ap is_done (sym (h refl)))

turn_moves_told : (shape : Shape) (m : Mover) (reply : ℕ) → is_done (turn_told shape (move_next_ask m reply) (turning_next shape turn.Moves m reply)) ≡ true → turn_rests (turning_next shape turn.Moves m reply).step ≡ true
unfolding turning_next
turn_moves_told shape m reply e = turn_told_rests shape (move_next m reply) (move_next_ask m reply) (move_goes_on m reply) e

turning_told : (shape : Shape) (step : Turning) (m : Mover) (reply : ℕ) → is_done (turning_next_ask shape step m reply) ≡ true → turn_rests (turning_next shape step m reply).step ≡ true
unfolding turning_next_ask
turning_told shape turn.Moves m reply e = turn_moves_told shape m reply e
turning_told shape step m reply e = elim (turn_asks shape (turn_at step m) reply) [
  | inl rests ↦ ap turn_rests rests
  | inr asks ↦ clash (is_done (turn_ask shape (turning_next shape step m reply))) e asks
]

pub turn_under_way : (shape : Shape) (t : TurnState) (reply : ℕ) → is_idle (Turns (turn_next shape t reply)) ≡ false → is_done (turn_next_ask shape t reply) ≡ false
turn_under_way shape t reply e = under_way (is_done (turn_next_ask shape t reply)) (is_idle (Turns (turn_next shape t reply))) (turning_told shape t.step t.mover reply) e
