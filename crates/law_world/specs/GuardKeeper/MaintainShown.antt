-- What the guard has of the keeper in a turn: the machine of the epochs and the work that each part is at, or none, where they are any that are through.
use Rattle.std.specs.Prelude.{◌≡◌, false, Option, Some, None, ⊤}
use Rattle.fkv_epoch.specs.EpochWorld.{EpochMachine, Scans, Claims, is_at_rest}
use Rattle.fkv_log.specs.declared.turning.Turning.{Turning}
use Rattle.fkv_log.specs.declared.turning.Turning.TheVariants as turn
use Rattle.fkv_log.specs.Moving.{Mover}
use Rattle.fkv_flush.specs.GuardWorld.{Work, Flushes, Shifts, Turns, Serves, is_idle}
use Rattle.fkv_maintain.specs.declared.maintaining.Maintaining.{Maintaining}
use Rattle.fkv_maintain.specs.declared.maintaining.Maintaining.TheVariants as maintain
use Rattle.fkv_maintain.specs.Maintaining.{MaintainState}
use Rattle.law_world.specs.GuardSessions.OwnTurns.{moving_machine, shift_machine}

-- the machine of the epochs that a move drives
abbrev pub move_machine : Mover → Option EpochMachine
move_machine m = moving_machine m.step m.raising m.arming

-- so of a turn, while it moves its offset
abbrev pub turn_machine : Turning → Mover → Option EpochMachine
turn_machine turn.Moves m = move_machine m
turn_machine step m = None

-- by the part that a turn is in
abbrev pub maintaining_machine : MaintainState → Maintaining → Option EpochMachine
maintaining_machine s maintain.Scans = Some (Scans s.scanning)
maintaining_machine s maintain.Claims = Some (Claims s.claiming)
maintaining_machine s maintain.Shifts = shift_machine s.shift.step s.shift.mover
maintaining_machine s maintain.Turns = turn_machine s.turn.step s.turn.mover
maintaining_machine s step = None

abbrev pub maintaining_work : MaintainState → Maintaining → Option Work
maintaining_work s maintain.Flushes = Some (Flushes s.flushing s.bytes)
maintaining_work s maintain.Shifts = Some (Shifts s.shift)
maintaining_work s maintain.Turns = Some (Turns s.turn)
maintaining_work s maintain.Serves = Some (Serves s.begin.0 s.serving)
maintaining_work s step = None

abbrev pub maintain_machine : MaintainState → Option EpochMachine
maintain_machine s = maintaining_machine s s.step

abbrev pub maintain_work : MaintainState → Option Work
maintain_work s = maintaining_work s s.step

-- what it drives is under way, where it drives something
abbrev pub IsUnderWay : Option EpochMachine → Option Work → Type 0
IsUnderWay machine (Some work) = is_idle work ≡ false
IsUnderWay (Some machine) None = is_at_rest machine ≡ false
IsUnderWay None None = ⊤
