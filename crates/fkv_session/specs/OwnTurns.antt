-- The turn that a session makes where its log had no room: it scans, runs what is armed, shifts the read-only offset, and opens a page
-- where the frame is free. The head stays with the keeper.
use Rattle.std.specs.Prelude.{ℕ, None}
use Rattle.fkv_base.specs.declared.numbers.Addr.{Addr}
use Rattle.fkv_base.specs.declared.shapes.Shape.{Shape}
use Rattle.fkv_plane.specs.declared.actions.Action.{Action}
use Rattle.fkv_plane.specs.declared.asks.Ask.{Ask}
use Rattle.fkv_plane.specs.declared.asks.Ask.TheVariants.{Done}
use Rattle.fkv_plane.specs.Passing.{passed}
use Rattle.fkv_epoch.specs.declared.scanning.Scanning.{Scanning}
use Rattle.fkv_epoch.specs.declared.scanning.Scanning.TheVariants as scan
use Rattle.fkv_epoch.specs.declared.claiming.Claiming.{Claiming}
use Rattle.fkv_epoch.specs.declared.claiming.Claiming.TheVariants as claim
use Rattle.fkv_epoch.specs.Scanning.{scan_ask, scan_next}
use Rattle.fkv_epoch.specs.Claiming.{claim_ask, claim_next, claim_given}
use Rattle.fkv_log.specs.declared.moving.MoveAnswer.{MoveAnswer}
use Rattle.fkv_log.specs.declared.shifting.ShiftAnswer.{ShiftAnswer}
use Rattle.fkv_log.specs.declared.shifting.ShiftAnswer.TheVariants as shift
use Rattle.fkv_log.specs.declared.turning.TurnForm.TheVariants.{OpensOnly}
use Rattle.fkv_log.specs.Shifting.{ShiftState, shift_begun, shift_ask, shift_next, shift_next_ask}
use Rattle.fkv_log.specs.Turning.{TurnState, turn_begun, turn_ask, turn_next, turn_next_ask}
use Rattle.fkv_session.specs.declared.own_turns.OwnTurning.{OwnTurning}
use Rattle.fkv_session.specs.declared.own_turns.OwnTurning.TheVariants.{Ended, Scans, Claims, Shifts, Opens}

pub record OwnTurnState : Type 0 where
  pub scanning : Scanning
  pub claiming : Claiming
  pub shift : ShiftState
  pub turn : TurnState
  pub step : OwnTurning

pub record OwnTurner : Type 0 where
  pub shape : Shape
  pub state : OwnTurnState

abbrev pub own_turn_begun : OwnTurnState → OwnTurnState
own_turn_begun o = record o { scanning = scan.LoadsEpoch; step = Scans }

-- what each state asks
unfoldable pub own_turning_ask : Shape → OwnTurnState → OwnTurning → Ask (Unit {0})
own_turning_ask shape o Ended = Done tt
own_turning_ask shape o Scans = passed (scan_ask o.scanning) tt
own_turning_ask shape o Claims = passed (claim_ask o.claiming) tt
own_turning_ask shape o Shifts = passed (shift_ask o.shift) tt
own_turning_ask shape o Opens = passed (turn_ask shape o.turn) tt

abbrev pub own_turn_ask : Shape → OwnTurnState → Ask (Unit {0})
own_turn_ask shape o = own_turning_ask shape o o.step

-- by what the machines inside ask next
unfoldable pub scan_ledto : OwnTurnState → Ask (Unit {0}) → OwnTurnState
scan_ledto o (Done its) = record o { claiming = claim.MeetsSlot 0 None; step = Claims }
scan_ledto o ask = o

unfoldable pub claim_ledto : OwnTurnState → Ask (Unit {0}) → OwnTurnState
claim_ledto o (Done its) = record o { shift = shift_begun; step = Shifts }
claim_ledto o ask = o

-- the tail that the shift has loaded
abbrev pub tail_told : ShiftAnswer → Addr
tail_told (shift.Through tail) = tail
tail_told (shift.NoSlot tail) = tail
tail_told (shift.Spent tail) = tail

unfoldable pub shift_ledto : OwnTurnState → Ask ShiftAnswer → OwnTurnState
shift_ledto o (Done its) = record o { turn = turn_begun OpensOnly (tail_told its).0; step = Opens }
shift_ledto o ask = o

unfoldable pub open_ledto : OwnTurnState → Ask MoveAnswer → OwnTurnState
open_ledto o (Done its) = record o { step = Ended }
open_ledto o ask = o

-- where the reply leads
unfoldable pub own_turning_next : Shape → OwnTurnState → OwnTurning → ℕ → OwnTurnState
own_turning_next shape o Ended reply = o
own_turning_next shape o Scans reply = scan_ledto (record o { scanning = scan_next shape.sessions o.scanning reply }) (scan_ask (scan_next shape.sessions o.scanning reply))
own_turning_next shape o Claims reply = claim_ledto (record o { claiming = claim_next o.claiming reply }) (claim_ask (claim_next o.claiming reply))
own_turning_next shape o Shifts reply = shift_ledto (record o { shift = shift_next shape o.shift reply }) (shift_next_ask shape o.shift reply)
own_turning_next shape o Opens reply = open_ledto (record o { turn = turn_next shape o.turn reply }) (turn_next_ask shape o.turn reply)

abbrev pub own_turn_next : Shape → OwnTurnState → ℕ → OwnTurnState
own_turn_next shape o reply = own_turning_next shape o o.step reply

-- what the action of a claimed slot leads to
unfoldable pub own_turning_given : OwnTurnState → OwnTurning → Action → OwnTurnState
own_turning_given o Claims action = claim_ledto (record o { claiming = claim_given o.claiming action }) (claim_ask (claim_given o.claiming action))
own_turning_given o step action = o

abbrev pub own_turn_given : OwnTurnState → Action → OwnTurnState
own_turn_given o action = own_turning_given o o.step action
