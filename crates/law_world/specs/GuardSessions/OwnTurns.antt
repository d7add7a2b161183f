-- What the guard's actor is like in a session's own turn. What the machine of the epochs inside a shift is at is what the move inside has come to.
use Rattle.std.specs.Prelude.{◌==◌, if◌then◌else◌, List, Option, Some, None}
use Rattle.fkv_base.specs.declared.shapes.Shape.{Shape}
use Rattle.fkv_plane.specs.declared.actions.Action.{Action}
use Rattle.fkv_plane.specs.declared.asks.Ask.{Ask}
use Rattle.fkv_plane.specs.declared.asks.Ask.TheVariants.{Put, Take}
use Rattle.fkv_plane.specs.Plane.{action_at}
use Rattle.fkv_epoch.specs.declared.scanning.Scanning.{Scanning}
use Rattle.fkv_epoch.specs.declared.scanning.Scanning.TheVariants as scan
use Rattle.fkv_epoch.specs.declared.claiming.Claiming.{Claiming}
use Rattle.fkv_epoch.specs.declared.claiming.Claiming.TheVariants as claim
use Rattle.fkv_epoch.specs.declared.raising.Raising.{Raising}
use Rattle.fkv_epoch.specs.declared.arming.Arming.{Arming}
use Rattle.fkv_epoch.specs.EpochWorld as epochs
use Rattle.fkv_epoch.specs.EpochWorld.{EpochMachine, ToScan, ToClaim}
use Rattle.fkv_log.specs.declared.moving.Moving.{Moving}
use Rattle.fkv_log.specs.declared.moving.Moving.TheVariants as move
use Rattle.fkv_log.specs.declared.shifting.Shifting.{Shifting}
use Rattle.fkv_log.specs.declared.shifting.Shifting.TheVariants as shift
use Rattle.fkv_log.specs.declared.turning.Turning.{Turning}
use Rattle.fkv_log.specs.declared.turning.Turning.TheVariants as turn
use Rattle.fkv_log.specs.Moving.{Mover}
use Rattle.fkv_log.specs.Shifting.{ShiftState}
use Rattle.fkv_log.specs.Turning.{TurnState}
use Rattle.fkv_flush.specs.GuardSeen.{LastSeen}
use Rattle.fkv_flush.specs.GuardWorld as guard
use Rattle.fkv_flush.specs.GuardWorld.{Work, ToDo, ToShift, ToTurnPage, shift_rests, turn_rests}
use Rattle.fkv_flush.proofs.Shown.{Likeness}
use Rattle.fkv_session.specs.declared.own_turns.OwnTurning.{OwnTurning}
use Rattle.fkv_session.specs.declared.own_turns.OwnTurning.TheVariants.{Ended, Scans, Claims, Shifts, Opens}
use Rattle.fkv_session.specs.OwnTurns.{OwnTurnState, own_turn_next, own_turn_given}
use Rattle.law_world.specs.GuardSessions.Likenesses.{likeness, through}
use Rattle.law_world.specs.GuardSessions.Steps.{Onward, Stays, Starts}

-- a machine that is through is like any other that is
abbrev pub scan_machine : Scanning → Option EpochMachine
scan_machine scan.AtRest = None
scan_machine step = Some (epochs.Scans step)

abbrev pub claim_machine : Claiming → Option EpochMachine
claim_machine claim.AtRest = None
claim_machine step = Some (epochs.Claims step)

-- a move has driven its raise up to where it puts its action, and its arming from then on
abbrev pub moving_machine : Moving → Raising → Arming → Option EpochMachine
moving_machine move.AtRest raising arming = None
moving_machine (move.Raises target) raising arming = Some (epochs.Raises raising)
moving_machine (move.MovesOffset target) raising arming = Some (epochs.Raises raising)
moving_machine (move.Puts target slot) raising arming = Some (epochs.Arms arming)
moving_machine move.Arms raising arming = Some (epochs.Arms arming)

abbrev pub shift_machine : Shifting → Mover → Option EpochMachine
shift_machine (shift.Moves tail) m = moving_machine m.step m.raising m.arming
shift_machine step m = None

abbrev pub shift_work : ShiftState → Option Work
shift_work s = if shift_rests s.step then None else Some (guard.Shifts s)

abbrev pub turn_work : TurnState → Option Work
turn_work s = if turn_rests s.step then None else Some (guard.Turns s)

abbrev pub own_turn_likeness_at : LastSeen → OwnTurnState → OwnTurning → Likeness
own_turn_likeness_at seen o Ended = through seen
own_turn_likeness_at seen o Scans = likeness (scan_machine o.scanning) None seen None
own_turn_likeness_at seen o Claims = likeness (claim_machine o.claiming) None seen None
own_turn_likeness_at seen o Shifts = likeness (shift_machine o.shift.step o.shift.mover) (shift_work o.shift) seen None
own_turn_likeness_at seen o Opens = likeness None (turn_work o.turn) seen None

abbrev pub own_turn_likeness : LastSeen → OwnTurnState → Likeness
own_turn_likeness seen o = own_turn_likeness_at seen o o.step

-- a machine at its first step has begun just now
abbrev pub scan_onward : Scanning → Onward
scan_onward scan.LoadsEpoch = Starts (ToDo ToScan)
scan_onward step = Stays

abbrev pub claim_onward : Claiming → Onward
claim_onward (claim.MeetsSlot slot None) = if slot == 0 then Starts (ToDo ToClaim) else Stays
claim_onward step = Stays

abbrev pub shift_onward : Shifting → Onward
shift_onward shift.LoadsTail = Starts ToShift
shift_onward step = Stays

abbrev pub turn_onward : Turning → Onward
turn_onward (turn.LoadsLimit form tail) = Starts (ToTurnPage form tail)
turn_onward step = Stays

abbrev pub own_turn_onward : OwnTurnState → OwnTurning → Onward
own_turn_onward o Ended = Stays
own_turn_onward o Scans = scan_onward o.scanning
own_turn_onward o Claims = claim_onward o.claiming
own_turn_onward o Shifts = shift_onward o.shift.step
own_turn_onward o Opens = turn_onward o.turn.step

-- What is settled in the same step as an ask of a word: an action goes into its slot or comes out of it, and the turn goes on at once.
abbrev pub turn_gets : OwnTurnState → Option Action → OwnTurnState
turn_gets o None = o
turn_gets o (Some action) = own_turn_given o action

abbrev pub turn_settled : Shape → List (Option Action) → OwnTurnState → Ask (Unit {0}) → OwnTurnState
turn_settled shape actions o (Put slot action) = own_turn_next shape o 0
turn_settled shape actions o (Take slot) = turn_gets o (action_at actions slot)
turn_settled shape actions o ask = o
