-- Nothing that a turn does moves the log's begin.
use Rattle.std.proofs.Common.{◌≡◌, ℕ, List, refl, Bool, true, false, ◌∙◌}
use Rattle.fkv_base.specs.declared.shapes.Shape.{Shape}
use Rattle.fkv_plane.specs.declared.actions.Action.{Action}
use Rattle.fkv_plane.specs.declared.asks.Ask.{Ask}
use Rattle.fkv_plane.specs.declared.asks.Ask.TheVariants.{Done}
use Rattle.fkv_plane.specs.declared.places.Places.{Places}
use Rattle.fkv_epoch.specs.Scanning.{scan_ask, scan_next}
use Rattle.fkv_epoch.specs.Claiming.{claim_ask, claim_next, claim_given}
use Rattle.fkv_log.specs.declared.moving.MoveAnswer.{MoveAnswer}
use Rattle.fkv_log.specs.declared.moving.MoveAnswer.TheVariants as moved
use Rattle.fkv_log.specs.declared.shifting.ShiftAnswer.{ShiftAnswer}
use Rattle.fkv_log.specs.declared.shifting.ShiftAnswer.TheVariants as shift
use Rattle.fkv_log.specs.Shifting.{shift_next, shift_next_ask}
use Rattle.fkv_log.specs.Turning.{turn_next, turn_next_ask}
use Rattle.fkv_flush.specs.declared.answers.DeviceAnswer.{DeviceAnswer}
use Rattle.fkv_flush.specs.declared.answers.DeviceAnswer.TheVariants as device
use Rattle.fkv_flush.specs.Flushing.{flush_ask, flush_next, flush_done, bytes_next, bytes_done}
use Rattle.fkv_flush.specs.Serving.{serve_ask, serve_next, serve_read, mailbox_from}
use Rattle.fkv_maintain.specs.declared.maintaining.Maintaining.{Maintaining}
use Rattle.fkv_maintain.specs.declared.maintaining.Maintaining.TheVariants.{Through, Spent, Broken, Scans, Claims, Flushes, Shifts, Turns, Serves}
use Rattle.fkv_maintain.specs.Maintaining.{MaintainState, flush_told, scan_ledto, claim_ledto, flush_ledto, shift_ledto, turn_ledto, serve_ledto, maintaining_next, maintain_next, maintaining_given, maintain_given, maintaining_called, maintain_called}
use Rattle.fkv_maintain.specs.MaintainRun.{Replies, Gets, Calls, maintain_happens}
use Rattle.fkv_maintain.specs.Parts.{KeepsBegin}

scan_begin : (m : MaintainState) (ask : Ask (Unit {0})) → (scan_ledto m ask).begin ≡ m.begin
unfolding scan_ledto
scan_begin m (Done its) = refl
scan_begin m ask = refl

claim_begin : (m : MaintainState) (ask : Ask (Unit {0})) → (claim_ledto m ask).begin ≡ m.begin
unfolding claim_ledto
claim_begin m (Done its) = refl
claim_begin m ask = refl

flush_begin : (m : MaintainState) (ask : Ask DeviceAnswer) → (flush_ledto m ask).begin ≡ m.begin
unfolding flush_ledto
flush_begin m (Done device.Through) = refl
flush_begin m ask = refl

serve_begin : (m : MaintainState) (ask : Ask DeviceAnswer) → (serve_ledto m ask).begin ≡ m.begin
unfolding serve_ledto
serve_begin m (Done device.Through) = refl
serve_begin m ask = refl

shift_begin : (m : MaintainState) (ask : Ask ShiftAnswer) → (shift_ledto m ask).begin ≡ m.begin
unfolding shift_ledto
shift_begin m (Done (shift.Through its)) = refl
shift_begin m (Done (shift.NoSlot its)) = refl
shift_begin m (Done (shift.Spent its)) = refl
shift_begin m ask = refl

turn_begin : (shape : Shape) (m : MaintainState) (ask : Ask MoveAnswer) → (turn_ledto shape m ask).begin ≡ m.begin
unfolding turn_ledto
turn_begin shape m (Done moved.Through) = serve_begin (record m { serving = mailbox_from shape.sessions 0; step = Serves }) (serve_ask (mailbox_from shape.sessions 0))
turn_begin shape m (Done moved.NoSlot) = serve_begin (record m { serving = mailbox_from shape.sessions 0; is_drain_full = true; step = Serves }) (serve_ask (mailbox_from shape.sessions 0))
turn_begin shape m (Done moved.Spent) = refl
turn_begin shape m ask = refl

next_begin : (shape : Shape) (p : Places) (s : MaintainState) (step : Maintaining) (reply : ℕ) → (maintaining_next shape p s step reply).begin ≡ s.begin
unfolding maintaining_next
next_begin shape p s Scans reply = scan_begin (record s { scanning = scan_next shape.sessions s.scanning reply }) (scan_ask (scan_next shape.sessions s.scanning reply))
next_begin shape p s Claims reply = claim_begin (record s { claiming = claim_next s.claiming reply }) (claim_ask (claim_next s.claiming reply))
next_begin shape p s Flushes reply =
    let next = flush_next shape.page s.flushing reply in
    flush_begin (record s { bytes = bytes_next s.flushing s.bytes reply; flushing = next }) (flush_ask p next)
next_begin shape p s Shifts reply = shift_begin (record s { shift = shift_next shape s.shift reply }) (shift_next_ask shape s.shift reply)
next_begin shape p s Turns reply = turn_begin shape (record s { turn = turn_next shape s.turn reply }) (turn_next_ask shape s.turn reply)
next_begin shape p s Serves reply =
    let next = serve_next shape.sessions s.begin.0 s.serving reply in
    serve_begin (record s { serving = next }) (serve_ask next)
next_begin shape p s step reply = refl

given_begin : (s : MaintainState) (step : Maintaining) (action : Action) → (maintaining_given s step action).begin ≡ s.begin
unfolding maintaining_given
given_begin s Claims action = claim_begin (record s { claiming = claim_given s.claiming action }) (claim_ask (claim_given s.claiming action))
given_begin s step action = refl

called_begin : (shape : Shape) (p : Places) (s : MaintainState) (step : Maintaining) (done : Bool) (bytes : List ℕ) → (maintaining_called shape p s step done bytes).begin ≡ s.begin
unfolding maintaining_called
called_begin shape p s Flushes true bytes =
    let next = flush_done shape.page s.flushing true in
    flush_begin (record s { bytes = bytes_done s.flushing s.bytes; flushing = next }) (flush_told shape p next)
called_begin shape p s Flushes false bytes = refl
called_begin shape p s Serves true bytes =
    let next = serve_read s.serving bytes in
    serve_begin (record s { serving = next }) (serve_ask next)
called_begin shape p s Serves false bytes = refl
called_begin shape p s step done bytes = refl

-- by a reply, by an action and by a call of the device
pub maintain_next_begin : (shape : Shape) (p : Places) (s : MaintainState) (reply : ℕ) → (maintain_next shape p s reply).begin ≡ s.begin
maintain_next_begin shape p s reply = next_begin shape p s s.step reply

pub maintain_given_begin : (s : MaintainState) (action : Action) → (maintain_given s action).begin ≡ s.begin
maintain_given_begin s action = given_begin s s.step action

pub maintain_called_begin : (shape : Shape) (p : Places) (s : MaintainState) (done : Bool) (bytes : List ℕ) → (maintain_called shape p s done bytes).begin ≡ s.begin
maintain_called_begin shape p s done bytes = called_begin shape p s s.step done bytes

pub keeps_begin : KeepsBegin
unfolding maintain_happens
keeps_begin shape p s (Replies reply) = maintain_next_begin shape p s reply
keeps_begin shape p s (Gets action) = maintain_given_begin s action
keeps_begin shape p s (Calls done bytes) = maintain_called_begin shape p s done bytes
