-- What each step of a turn is to the guard: the events of the actor of this number, the newest first. The machine that is driven makes its ask or its
-- call of the device, and where it is at its end the next part's machine begins.
use Rattle.std.specs.Prelude.{ℕ, suc, if◌then◌else◌, Bool, true, false, List, [], ◌∷◌, Some, None}
use Rattle.fkv_base.specs.declared.shapes.Shape.{Shape}
use Rattle.fkv_plane.specs.declared.asks.Ask.{Ask}
use Rattle.fkv_plane.specs.declared.asks.Ask.TheVariants.{Done}
use Rattle.fkv_plane.specs.declared.places.Places.{Places}
use Rattle.fkv_epoch.specs.Scanning.{scan_ask, scan_next}
use Rattle.fkv_epoch.specs.Claiming.{claim_ask, claim_next}
use Rattle.fkv_epoch.specs.EpochWorld.{ToClaim}
use Rattle.fkv_log.specs.declared.moving.MoveAnswer.{MoveAnswer}
use Rattle.fkv_log.specs.declared.moving.MoveAnswer.TheVariants as moved
use Rattle.fkv_log.specs.declared.shifting.ShiftAnswer.{ShiftAnswer}
use Rattle.fkv_log.specs.declared.shifting.ShiftAnswer.TheVariants as shifted
use Rattle.fkv_log.specs.declared.turning.TurnForm.TheVariants.{Whole}
use Rattle.fkv_log.specs.Shifting.{shift_next_ask}
use Rattle.fkv_log.specs.Turning.{turn_next_ask}
use Rattle.fkv_flush.specs.declared.answers.DeviceAnswer.{DeviceAnswer}
use Rattle.fkv_flush.specs.declared.answers.DeviceAnswer.TheVariants as device
use Rattle.fkv_flush.specs.declared.flushing.Flushing.{Flushing}
use Rattle.fkv_flush.specs.declared.flushing.Flushing.TheVariants as flush
use Rattle.fkv_flush.specs.Flushing.{flush_ask, flush_next, flush_done}
use Rattle.fkv_flush.specs.GuardWorld.{GuardEvent, Begins, Moves, Calls, Reads, ToDo, ToFlush, ToShift, ToTurnPage, ToServe}
use Rattle.fkv_maintain.specs.declared.maintaining.Maintaining.{Maintaining}
use Rattle.fkv_maintain.specs.declared.maintaining.Maintaining.TheVariants as maintain
use Rattle.fkv_maintain.specs.Maintaining.{MaintainState, is_sync_due, flush_told}

-- by what each machine asks next
abbrev pub scan_events : ℕ → Ask (Unit {0}) → List GuardEvent
scan_events a (Done its) = Begins a (ToDo ToClaim) ∷ Moves a ∷ []
scan_events a ask = Moves a ∷ []

-- a flush that rests goes on where it is, and else one begins
abbrev pub then_flushes : ℕ → Flushing → List GuardEvent → List GuardEvent
then_flushes a (flush.Syncs end) before = before
then_flushes a step before = Begins a ToFlush ∷ before

abbrev pub claim_events : ℕ → Flushing → Ask (Unit {0}) → List GuardEvent
claim_events a flushing (Done its) = then_flushes a flushing (Moves a ∷ [])
claim_events a flushing ask = Moves a ∷ []

-- While a flush rests, the actor behind its own makes the shift.
abbrev pub shifter : ℕ → Flushing → ℕ
shifter a step = if is_sync_due step then suc a else a

-- the flush has made its ask, or its call, and this actor makes the shift
abbrev pub flush_events : ℕ → GuardEvent → Ask DeviceAnswer → List GuardEvent
flush_events a made (Done device.Through) = Begins a ToShift ∷ made ∷ []
flush_events a made ask = made ∷ []

-- at the last epoch nothing more begins
abbrev pub shift_events : ℕ → Ask ShiftAnswer → List GuardEvent
shift_events a (Done (shifted.Through tail)) = Begins a (ToTurnPage Whole tail.0) ∷ Moves a ∷ []
shift_events a (Done (shifted.NoSlot tail)) = Begins a (ToTurnPage Whole tail.0) ∷ Moves a ∷ []
shift_events a ask = Moves a ∷ []

-- mailboxes are served of a log that begins at this address
abbrev pub turn_events : ℕ → ℕ → Ask MoveAnswer → List GuardEvent
turn_events a begin (Done moved.Through) = Begins a (ToServe begin) ∷ Moves a ∷ []
turn_events a begin (Done moved.NoSlot) = Begins a (ToServe begin) ∷ Moves a ∷ []
turn_events a begin ask = Moves a ∷ []

-- a reply
unfoldable pub maintain_events : ℕ → Shape → Places → MaintainState → Maintaining → ℕ → List GuardEvent
maintain_events a shape p s maintain.Scans reply = scan_events a (scan_ask (scan_next shape.sessions s.scanning reply))
maintain_events a shape p s maintain.Claims reply = claim_events a s.flushing (claim_ask (claim_next s.claiming reply))
maintain_events a shape p s maintain.Flushes reply = flush_events a (Moves a) (flush_ask p (flush_next shape.page s.flushing reply))
maintain_events a shape p s maintain.Shifts reply = shift_events a (shift_next_ask shape s.shift reply)
maintain_events a shape p s maintain.Turns reply = turn_events a s.begin.0 (turn_next_ask shape s.turn reply)
maintain_events a shape p s maintain.Serves reply = Moves a ∷ []
maintain_events a shape p s step reply = []

-- a call of the device, with what it read
unfoldable pub maintain_called_events : ℕ → Shape → Places → MaintainState → Maintaining → Bool → List ℕ → List GuardEvent
maintain_called_events a shape p s maintain.Flushes true bytes = flush_events (shifter a (flush_done shape.page s.flushing true)) (Calls a true) (flush_told shape p (flush_done shape.page s.flushing true))
maintain_called_events a shape p s maintain.Flushes false bytes = Calls a false ∷ []
maintain_called_events a shape p s maintain.Serves true bytes = Reads a (Some bytes) ∷ []
maintain_called_events a shape p s maintain.Serves false bytes = Reads a None ∷ []
maintain_called_events a shape p s step done bytes = []
