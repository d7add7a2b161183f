-- How many asks and calls of the device a turn of the keeper has left, at most: those of the machine inside that is under way, and of
-- what may come behind it. The takes and puts of actions count with them.
use Rattle.std.specs.Prelude.{◌≡◌, ℕ, ◌+◌, ◌*◌, ◌<◌, ◌↔◌, Bool, true, false, if◌then◌else◌}
use Rattle.fkv_base.specs.Limits.{drain_slots}
use Rattle.fkv_base.specs.declared.shapes.Shape.{Shape}
use Rattle.fkv_plane.specs.declared.asks.Ask.{Ask}
use Rattle.fkv_plane.specs.declared.asks.Ask.TheVariants.{Done}
use Rattle.fkv_plane.specs.Passing.{is_done}
use Rattle.fkv_epoch.specs.Scanning.{scan_ask, scan_asks_left}
use Rattle.fkv_epoch.specs.Claiming.{claim_ask, claim_asks_left}
use Rattle.fkv_log.specs.Moving.{move_asks_most}
use Rattle.fkv_log.specs.Shifting.{shift_ask, shift_asks_left}
use Rattle.fkv_log.specs.Turning.{turn_ask, turn_asks_left, asks_past_closed}
use Rattle.fkv_log.specs.declared.turning.TurnForm.TheVariants.{Whole}
use Rattle.fkv_flush.specs.AsksLeft.{flush_asks_left, most_flush_asks, serve_asks_left, most_serve_asks}
use Rattle.fkv_plane.specs.AsksLeft.{sum_left}
use Rattle.fkv_maintain.specs.declared.maintaining.MaintainAnswer.{MaintainAnswer}
use Rattle.fkv_maintain.specs.declared.maintaining.MaintainAnswer.TheVariants as answer
use Rattle.fkv_maintain.specs.declared.maintaining.Maintaining.{Maintaining}
use Rattle.fkv_maintain.specs.declared.maintaining.Maintaining.TheVariants.{Scans, Claims, Flushes, Shifts, Turns, Serves}
use Rattle.fkv_maintain.specs.Maintaining.{MaintainState}

-- a turn is at its end, and neither about to ask for something nor to call the device
abbrev pub is_ended : Ask MaintainAnswer → Bool
is_ended (Done answer.Device) = false
is_ended (Done its) = true
is_ended ask = false

-- it asks or calls just where it has some left
abbrev pub GoesOnWhereLeft : ℕ → Ask MaintainAnswer → Type 0
GoesOnWhereLeft left ask = (is_ended ask ≡ false) ↔ (0 < left)

-- From each part on, to the end of the turn. One more stands before the mailboxes, for the page before them.
abbrev pub from_mailboxes : Shape → ℕ
from_mailboxes shape = most_serve_asks shape.sessions + 1

abbrev pub from_page : Shape → ℕ
from_page shape = asks_past_closed Whole + 2 + from_mailboxes shape

abbrev pub from_shift : Shape → ℕ
from_shift shape = move_asks_most + 2 + from_page shape

abbrev pub from_flush : Shape → ℕ
from_flush shape = most_flush_asks + from_shift shape

abbrev pub from_claims : Shape → ℕ
from_claims shape = 5 * drain_slots + 1 + from_flush shape

abbrev pub most_maintain_asks : Shape → ℕ
most_maintain_asks shape = shape.sessions + 2 + from_claims shape

-- a machine inside that is at its end asks for nothing, and nothing comes behind it
abbrev pub unless_done : {A : Type 0} → Ask A → ℕ → ℕ
unless_done ask left = if is_done ask then 0 else left

unfoldable pub maintaining_asks_left : Shape → MaintainState → Maintaining → ℕ
maintaining_asks_left shape s Scans = unless_done (scan_ask s.scanning) (scan_asks_left shape.sessions s.scanning + from_claims shape)
maintaining_asks_left shape s Claims = unless_done (claim_ask s.claiming) (claim_asks_left s.claiming + from_flush shape)
maintaining_asks_left shape s Flushes = sum_left (flush_asks_left s.flushing) (from_shift shape)
maintaining_asks_left shape s Shifts = unless_done (shift_ask s.shift) (shift_asks_left s.shift + from_page shape)
maintaining_asks_left shape s Turns = unless_done (turn_ask shape s.turn) (turn_asks_left s.turn + from_mailboxes shape)
maintaining_asks_left shape s Serves = serve_asks_left shape.sessions s.serving
maintaining_asks_left shape s step = 0

abbrev pub maintain_asks_left : Shape → MaintainState → ℕ
maintain_asks_left shape s = maintaining_asks_left shape s s.step
