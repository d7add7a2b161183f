-- What a turn of the keeper does whether a commit is in hand or not: it scans, runs what is armed, flushes, shifts the read-only offset,
-- opens a page or moves the head for it, and serves the mailboxes.
use Rattle.std.specs.Prelude.{ℕ, List, [], Bool, true, false, not, ◌&&◌, if◌then◌else◌, Option, Some, None}
use Rattle.fkv_base.specs.declared.numbers.Addr.{Addr}
use Rattle.fkv_base.specs.declared.shapes.Shape.{Shape}
use Rattle.fkv_base.specs.Limits.{is_specified}
use Rattle.fkv_disk.specs.Asks.{AskedCall, first_asked}
use Rattle.fkv_disk.specs.Calls.{Call}
use Rattle.fkv_disk.specs.declared.asks.DeviceAsk.{DeviceAsk}
use Rattle.fkv_disk.specs.declared.asks.DeviceAsk.TheVariants as ask
use Rattle.fkv_plane.specs.declared.actions.Action.{Action}
use Rattle.fkv_plane.specs.declared.asks.Ask.{Ask}
use Rattle.fkv_plane.specs.declared.asks.Ask.TheVariants.{Done}
use Rattle.fkv_plane.specs.declared.places.Places.{Places}
use Rattle.fkv_plane.specs.Passing.{passed}
use Rattle.fkv_epoch.specs.declared.scanning.Scanning.{Scanning}
use Rattle.fkv_epoch.specs.declared.scanning.Scanning.TheVariants as scan
use Rattle.fkv_epoch.specs.declared.claiming.Claiming.{Claiming}
use Rattle.fkv_epoch.specs.declared.claiming.Claiming.TheVariants as claim
use Rattle.fkv_epoch.specs.Scanning.{scan_ask, scan_next}
use Rattle.fkv_epoch.specs.Claiming.{claim_ask, claim_next, claim_given}
use Rattle.fkv_log.specs.declared.moving.MoveAnswer.{MoveAnswer}
use Rattle.fkv_log.specs.declared.moving.MoveAnswer.TheVariants as moved
use Rattle.fkv_log.specs.declared.shifting.ShiftAnswer.{ShiftAnswer}
use Rattle.fkv_log.specs.declared.shifting.ShiftAnswer.TheVariants as shift
use Rattle.fkv_log.specs.declared.turning.TurnForm.TheVariants.{Whole}
use Rattle.fkv_log.specs.Shifting.{ShiftState, shift_begun, shift_ask, shift_next, shift_next_ask}
use Rattle.fkv_log.specs.Turning.{TurnState, turn_begun, turn_ask, turn_next, turn_next_ask}
use Rattle.fkv_flush.specs.declared.answers.DeviceAnswer.{DeviceAnswer}
use Rattle.fkv_flush.specs.declared.answers.DeviceAnswer.TheVariants as device
use Rattle.fkv_flush.specs.declared.flushing.Flushing.{Flushing}
use Rattle.fkv_flush.specs.declared.flushing.Flushing.TheVariants.{LoadsFlushed, Syncs}
use Rattle.fkv_flush.specs.declared.serving.Serving.{Serving}
use Rattle.fkv_flush.specs.declared.serving.Serving.TheVariants as serving
use Rattle.fkv_flush.specs.Devices.{calls_asked}
use Rattle.fkv_flush.specs.Flushing.{flush_ask, flush_next, flush_done, flush_calls, bytes_next, bytes_done, word_due}
use Rattle.fkv_flush.specs.Serving.{serve_ask, serve_next, serve_read, mailbox_from, mail_read}
use Rattle.fkv_maintain.specs.declared.maintaining.MaintainAnswer.{MaintainAnswer}
use Rattle.fkv_maintain.specs.declared.maintaining.MaintainAnswer.TheVariants as answer
use Rattle.fkv_maintain.specs.declared.maintaining.Maintaining.{Maintaining}
use Rattle.fkv_maintain.specs.declared.maintaining.Maintaining.TheVariants.{Through, Spent, Broken, Scans, Claims, Flushes, Shifts, Turns, Serves}

pub record MaintainState : Type 0 where
  pub scanning : Scanning
  pub claiming : Claiming
  pub bytes : List ℕ
  pub flushing : Flushing
  pub shift : ShiftState
  pub turn : TurnState
  -- the address at which the log begins
  pub begin : Addr
  pub serving : Serving
  pub is_drain_full : Bool
  pub step : Maintaining

pub record Maintainer : Type 0 where
  pub shape : Shape
  pub places : Places
  pub state : MaintainState

abbrev pub maintain_begun : MaintainState → MaintainState
maintain_begun s = record s { scanning = scan.LoadsEpoch; is_drain_full = false; step = Scans }

-- A turn that only serves begins with the first mailbox. Each store has a session.
abbrev pub maintain_serving : MaintainState → MaintainState
maintain_serving s = record s { serving = serving.LoadsState 0; is_drain_full = false; step = Serves }

-- From the end of a turn on mailboxes are served of a log that begins at this address.
abbrev pub maintain_from : Addr → MaintainState → MaintainState
maintain_from begin s = record s { begin = begin; serving = serving.AtRest }

-- what a flush and a serving ask for is passed on, and their calls of the device are the turn's
unfoldable pub device_asked : Ask DeviceAnswer → Ask MaintainAnswer
device_asked (Done device.Device) = Done answer.Device
device_asked ask = passed ask answer.Through

-- what each state asks
unfoldable pub maintaining_ask : Shape → Places → MaintainState → Maintaining → Ask MaintainAnswer
maintaining_ask shape p s Through = Done answer.Through
maintaining_ask shape p s Spent = Done answer.Spent
maintaining_ask shape p s Broken = Done answer.Broken
maintaining_ask shape p s Scans = passed (scan_ask s.scanning) answer.Through
maintaining_ask shape p s Claims = passed (claim_ask s.claiming) answer.Through
maintaining_ask shape p s Flushes = device_asked (flush_ask p s.flushing)
maintaining_ask shape p s Shifts = passed (shift_ask s.shift) answer.Through
maintaining_ask shape p s Turns = passed (turn_ask shape s.turn) answer.Through
maintaining_ask shape p s Serves = device_asked (serve_ask s.serving)

abbrev pub maintain_ask : Shape → Places → MaintainState → Ask MaintainAnswer
maintain_ask shape p s = maintaining_ask shape p s s.step

-- all of a flush is written, and its sync is due
abbrev pub is_sync_due : Flushing → Bool
is_sync_due (Syncs end) = true
is_sync_due step = false

-- then the call of the device that it makes next is a sync
abbrev pub is_sync_asked : Option DeviceAsk → Bool
is_sync_asked (Some ask.Sync) = true
is_sync_asked asked = false

-- where its sync is due as a turn begins, the flush rests
abbrev pub is_flush_resting : MaintainState → Bool
is_flush_resting s = is_sync_due s.flushing

-- What a flush asks for next behind a call of the device: nothing more in this turn before the sync of a living store.
abbrev pub flush_told : Shape → Places → Flushing → Ask DeviceAnswer
flush_told shape p step = if not (is_specified shape.class) && is_sync_due step then Done device.Through else flush_ask p step

-- one that rests is taken up where it is, with its bytes, and else one begins
abbrev pub flush_begun : Flushing → Flushing
flush_begun (Syncs end) = Syncs end
flush_begun step = LoadsFlushed

abbrev pub bytes_begun : Flushing → List ℕ → List ℕ
bytes_begun (Syncs end) bytes = bytes
bytes_begun step bytes = []

-- by what the machines inside ask next
unfoldable pub scan_ledto : MaintainState → Ask (Unit {0}) → MaintainState
scan_ledto s (Done its) = record s { claiming = claim.MeetsSlot 0 None; step = Claims }
scan_ledto s ask = s

unfoldable pub claim_ledto : MaintainState → Ask (Unit {0}) → MaintainState
claim_ledto s (Done its) = record s { bytes = bytes_begun s.flushing s.bytes; flushing = flush_begun s.flushing; step = Flushes }
claim_ledto s ask = s

-- the place of the record's word that the flush loads, if it loads one
abbrev pub word_due_at : Places → MaintainState → Maintaining → Option ℕ
word_due_at p s Flushes = word_due p s.flushing
word_due_at p s step = None

abbrev pub maintain_word_due : Places → MaintainState → Option ℕ
maintain_word_due p s = word_due_at p s s.step

unfoldable pub flush_ledto : MaintainState → Ask DeviceAnswer → MaintainState
flush_ledto s (Done device.Through) = record s { shift = shift_begun; step = Shifts }
flush_ledto s ask = s

-- the tail that the shift has loaded is the turn's
abbrev pub turn_form : MaintainState → Addr → MaintainState
turn_form s tail = record s { turn = turn_begun Whole tail.0; step = Turns }

-- a shift that met no free drain slot is left to a later turn
unfoldable pub shift_ledto : MaintainState → Ask ShiftAnswer → MaintainState
shift_ledto s (Done (shift.Through tail)) = turn_form s tail
shift_ledto s (Done (shift.NoSlot tail)) = turn_form (record s { is_drain_full = true }) tail
shift_ledto s (Done (shift.Spent tail)) = record s { step = Spent }
shift_ledto s ask = s

unfoldable pub serve_ledto : MaintainState → Ask DeviceAnswer → MaintainState
serve_ledto s (Done device.Through) = record s { step = Through }
serve_ledto s ask = s

abbrev pub serve_begun : Shape → MaintainState → MaintainState
serve_begun shape s = serve_ledto (record s { serving = mailbox_from shape.sessions 0; step = Serves }) (serve_ask (mailbox_from shape.sessions 0))

unfoldable pub turn_ledto : Shape → MaintainState → Ask MoveAnswer → MaintainState
turn_ledto shape s (Done moved.Through) = serve_begun shape s
turn_ledto shape s (Done moved.NoSlot) = serve_begun shape (record s { is_drain_full = true })
turn_ledto shape s (Done moved.Spent) = record s { step = Spent }
turn_ledto shape s ask = s

-- where the reply leads: at rest nowhere
unfoldable pub maintaining_next : Shape → Places → MaintainState → Maintaining → ℕ → MaintainState
maintaining_next shape p s Scans reply = scan_ledto (record s { scanning = scan_next shape.sessions s.scanning reply }) (scan_ask (scan_next shape.sessions s.scanning reply))
maintaining_next shape p s Claims reply = claim_ledto (record s { claiming = claim_next s.claiming reply }) (claim_ask (claim_next s.claiming reply))
maintaining_next shape p s Flushes reply =
    flush_ledto (record s { bytes = bytes_next s.flushing s.bytes reply; flushing = flush_next shape.page s.flushing reply }) (flush_ask p (flush_next shape.page s.flushing reply))
maintaining_next shape p s Shifts reply = shift_ledto (record s { shift = shift_next shape s.shift reply }) (shift_next_ask shape s.shift reply)
maintaining_next shape p s Turns reply = turn_ledto shape (record s { turn = turn_next shape s.turn reply }) (turn_next_ask shape s.turn reply)
maintaining_next shape p s Serves reply = serve_ledto (record s { serving = serve_next shape.sessions s.begin.0 s.serving reply }) (serve_ask (serve_next shape.sessions s.begin.0 s.serving reply))
maintaining_next shape p s step reply = s

abbrev pub maintain_next : Shape → Places → MaintainState → ℕ → MaintainState
maintain_next shape p s reply = maintaining_next shape p s s.step reply

-- what the action of a claimed slot leads to
unfoldable pub maintaining_given : MaintainState → Maintaining → Action → MaintainState
maintaining_given s Claims action = claim_ledto (record s { claiming = claim_given s.claiming action }) (claim_ask (claim_given s.claiming action))
maintaining_given s step action = s

abbrev pub maintain_given : MaintainState → Action → MaintainState
maintain_given s action = maintaining_given s s.step action

-- where a call of the device leads, whether it succeeded, and what it read
unfoldable pub maintaining_called : Shape → Places → MaintainState → Maintaining → Bool → List ℕ → MaintainState
maintaining_called shape p s Flushes true bytes =
    flush_ledto (record s { bytes = bytes_done s.flushing s.bytes; flushing = flush_done shape.page s.flushing true }) (flush_told shape p (flush_done shape.page s.flushing true))
maintaining_called shape p s Flushes false bytes = record s { bytes = bytes_done s.flushing s.bytes; flushing = flush_done shape.page s.flushing false; step = Broken }
maintaining_called shape p s Serves true bytes = serve_ledto (record s { serving = serve_read s.serving bytes }) (serve_ask (serve_read s.serving bytes))
maintaining_called shape p s Serves false bytes = record s { serving = serving.AtRest; step = Broken }
maintaining_called shape p s step done bytes = s

abbrev pub maintain_called : Shape → Places → MaintainState → Bool → List ℕ → MaintainState
maintain_called shape p s done bytes = maintaining_called shape p s s.step done bytes

-- the writes and syncs that it makes of the device, and whether they succeeded
unfoldable pub maintaining_calls : Shape → MaintainState → Maintaining → Bool → List Call
maintaining_calls shape s Flushes done = flush_calls shape s.bytes s.flushing done
maintaining_calls shape s step done = []

abbrev pub maintain_calls : Shape → MaintainState → Bool → List Call
maintain_calls shape s done = maintaining_calls shape s s.step done

-- how many calls it makes
unfoldable pub maintaining_made : Places → MaintainState → Maintaining → ℕ
maintaining_made p s Flushes = calls_asked (flush_ask p s.flushing)
maintaining_made p s Serves = calls_asked (serve_ask s.serving)
maintaining_made p s step = 0

abbrev pub maintain_made : Places → MaintainState → ℕ
maintain_made p s = maintaining_made p s s.step

-- one where it asks for one, and else none
abbrev pub maintain_calls_asked : Ask MaintainAnswer → ℕ
maintain_calls_asked (Done answer.Device) = 1
maintain_calls_asked ask = 0

-- that call itself, before it is made: a write or the sync of the flush, or a read for a mailbox
unfoldable pub maintaining_asked : Shape → MaintainState → Maintaining → Option AskedCall
maintaining_asked shape s Flushes = first_asked (flush_calls shape s.bytes s.flushing true)
maintaining_asked shape s Serves = mail_read shape s.serving
maintaining_asked shape s step = None

abbrev pub maintain_asked : Shape → MaintainState → Option AskedCall
maintain_asked shape s = maintaining_asked shape s s.step
