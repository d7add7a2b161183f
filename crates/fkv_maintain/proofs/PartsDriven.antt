-- In a part its own machine goes on.
use Rattle.std.proofs.Common.{◌≡◌, ℕ, List, refl, Bool, true, false}
use Rattle.fkv_base.specs.declared.shapes.Shape.{Shape}
use Rattle.fkv_plane.specs.declared.actions.Action.{Action}
use Rattle.fkv_plane.specs.declared.asks.Ask.{Ask}
use Rattle.fkv_plane.specs.declared.asks.Ask.TheVariants.{Done}
use Rattle.fkv_plane.specs.declared.places.Places.{Places}
use Rattle.fkv_epoch.specs.Scanning.{scan_ask, scan_next}
use Rattle.fkv_epoch.specs.Claiming.{claim_ask, claim_next, claim_given}
use Rattle.fkv_log.specs.declared.moving.MoveAnswer.{MoveAnswer}
use Rattle.fkv_log.specs.declared.moving.MoveAnswer.TheVariants as moved
use Rattle.fkv_log.specs.declared.shifting.ShiftAnswer.{ShiftAnswer}
use Rattle.fkv_log.specs.declared.shifting.ShiftAnswer.TheVariants as shift
use Rattle.fkv_log.specs.Shifting.{shift_next, shift_next_ask}
use Rattle.fkv_log.specs.Turning.{turn_next, turn_next_ask}
use Rattle.fkv_flush.specs.declared.answers.DeviceAnswer.{DeviceAnswer}
use Rattle.fkv_flush.specs.declared.answers.DeviceAnswer.TheVariants as device
use Rattle.fkv_flush.specs.Flushing.{flush_ask, flush_next, flush_done, bytes_next, bytes_done}
use Rattle.fkv_flush.specs.Serving.{serve_ask, serve_next, serve_read, mailbox_from}
use Rattle.fkv_maintain.specs.declared.maintaining.Maintaining.{Maintaining}
use Rattle.fkv_maintain.specs.declared.maintaining.Maintaining.TheVariants.{Through, Spent, Broken, Scans, Claims, Flushes, Shifts, Turns, Serves}
use Rattle.fkv_maintain.specs.Maintaining.{MaintainState, flush_told, scan_ledto, claim_ledto, flush_ledto, shift_ledto, turn_ledto, serve_ledto, maintaining_next, maintaining_given, maintaining_called}
use Rattle.fkv_maintain.specs.MaintainRun.{Replies, Gets, Calls, maintain_happens}
use Rattle.fkv_maintain.specs.Parts.{Drives, DrivesItsParts}

scan_kept : (m : MaintainState) (ask : Ask (Unit {0})) → (scan_ledto m ask).scanning ≡ m.scanning
unfolding scan_ledto
scan_kept m (Done its) = refl
scan_kept m ask = refl

claim_kept : (m : MaintainState) (ask : Ask (Unit {0})) → (claim_ledto m ask).claiming ≡ m.claiming
unfolding claim_ledto
claim_kept m (Done its) = refl
claim_kept m ask = refl

flush_kept : (m : MaintainState) (ask : Ask DeviceAnswer) → ((flush_ledto m ask).flushing ≡ m.flushing) × ((flush_ledto m ask).bytes ≡ m.bytes)
unfolding flush_ledto
flush_kept m (Done device.Through) = (refl, refl)
flush_kept m ask = (refl, refl)

serve_kept : (m : MaintainState) (ask : Ask DeviceAnswer) → ((serve_ledto m ask).serving ≡ m.serving) × ((serve_ledto m ask).turn ≡ m.turn)
unfolding serve_ledto
serve_kept m (Done device.Through) = (refl, refl)
serve_kept m ask = (refl, refl)

shift_kept : (m : MaintainState) (ask : Ask ShiftAnswer) → (shift_ledto m ask).shift ≡ m.shift
unfolding shift_ledto
shift_kept m (Done (shift.Through its)) = refl
shift_kept m (Done (shift.NoSlot its)) = refl
shift_kept m (Done (shift.Spent its)) = refl
shift_kept m ask = refl

turn_kept : (shape : Shape) (m : MaintainState) (ask : Ask MoveAnswer) → (turn_ledto shape m ask).turn ≡ m.turn
unfolding turn_ledto
turn_kept shape m (Done moved.Through) = (serve_kept (record m { serving = mailbox_from shape.sessions 0; step = Serves }) (serve_ask (mailbox_from shape.sessions 0))).1
turn_kept shape m (Done moved.NoSlot) = (serve_kept (record m { serving = mailbox_from shape.sessions 0; is_drain_full = true; step = Serves }) (serve_ask (mailbox_from shape.sessions 0))).1
turn_kept shape m (Done moved.Spent) = refl
turn_kept shape m ask = refl

replied_drives : (shape : Shape) (p : Places) (s : MaintainState) (step : Maintaining) (reply : ℕ) → Drives shape s step (Replies reply) (maintaining_next shape p s step reply)
unfolding maintaining_next
replied_drives shape p s Through reply = refl
replied_drives shape p s Spent reply = refl
replied_drives shape p s Broken reply = refl
replied_drives shape p s Scans reply = scan_kept (record s { scanning = scan_next shape.sessions s.scanning reply }) (scan_ask (scan_next shape.sessions s.scanning reply))
replied_drives shape p s Claims reply = claim_kept (record s { claiming = claim_next s.claiming reply }) (claim_ask (claim_next s.claiming reply))
replied_drives shape p s Flushes reply =
    let next = flush_next shape.page s.flushing reply in
    flush_kept (record s { bytes = bytes_next s.flushing s.bytes reply; flushing = next }) (flush_ask p next)
replied_drives shape p s Shifts reply = shift_kept (record s { shift = shift_next shape s.shift reply }) (shift_next_ask shape s.shift reply)
replied_drives shape p s Turns reply = turn_kept shape (record s { turn = turn_next shape s.turn reply }) (turn_next_ask shape s.turn reply)
replied_drives shape p s Serves reply =
    let next = serve_next shape.sessions s.begin.0 s.serving reply in
    (serve_kept (record s { serving = next }) (serve_ask next)).0

given_drives : (shape : Shape) (s : MaintainState) (step : Maintaining) (action : Action) → Drives shape s step (Gets action) (maintaining_given s step action)
unfolding maintaining_given
given_drives shape s Claims action = claim_kept (record s { claiming = claim_given s.claiming action }) (claim_ask (claim_given s.claiming action))
given_drives shape s step action = refl

called_drives : (shape : Shape) (p : Places) (s : MaintainState) (step : Maintaining) (done : Bool) (bytes : List ℕ)
    → Drives shape s step (Calls done bytes) (maintaining_called shape p s step done bytes)
unfolding maintaining_called
called_drives shape p s Flushes true bytes =
    let next = flush_done shape.page s.flushing true in
    flush_kept (record s { bytes = bytes_done s.flushing s.bytes; flushing = next }) (flush_told shape p next)
called_drives shape p s Flushes false bytes = (refl, refl)
called_drives shape p s Serves true bytes =
    let next = serve_read s.serving bytes in
    (serve_kept (record s { serving = next }) (serve_ask next)).0
called_drives shape p s Serves false bytes = refl
called_drives shape p s step done bytes = refl

pub drives_its_parts : DrivesItsParts
unfolding maintain_happens
drives_its_parts shape p s (Replies reply) = replied_drives shape p s s.step reply
drives_its_parts shape p s (Gets action) = given_drives shape s s.step action
drives_its_parts shape p s (Calls done bytes) = called_drives shape p s s.step done bytes
