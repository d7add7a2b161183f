-- Behind an action that it has put, or been given, a turn of the keeper goes on.
use Rattle.std.proofs.Common.{◌≡◌, ℕ, List, ◌∙◌, refl, ap, sym, subst, Bool, true, false}
use Rattle.fkv_base.specs.declared.shapes.Shape.{Shape}
use Rattle.fkv_plane.specs.declared.actions.Action.{Action}
use Rattle.fkv_plane.specs.declared.asks.Ask.{Ask}
use Rattle.fkv_plane.specs.declared.asks.Ask.TheVariants.{Put, Take, Done}
use Rattle.fkv_plane.specs.declared.places.Places.{Places}
use Rattle.fkv_plane.specs.Passing.{is_done, passed}
use Rattle.fkv_plane.proofs.Shown.{passed_done}
use Rattle.fkv_epoch.specs.Claiming.{claim_ask, claim_given, claim_next}
use Rattle.fkv_epoch.specs.Scanning.{scan_ask, scan_next}
use Rattle.fkv_flush.specs.declared.answers.DeviceAnswer.{DeviceAnswer}
use Rattle.fkv_flush.specs.declared.answers.DeviceAnswer.TheVariants as device
use Rattle.fkv_flush.specs.declared.flushing.Flushing.{Flushing}
use Rattle.fkv_flush.specs.declared.flushing.Flushing.TheVariants as flush
use Rattle.fkv_flush.specs.declared.serving.Serving.{Serving}
use Rattle.fkv_flush.specs.declared.serving.Serving.TheVariants as serve
use Rattle.fkv_flush.specs.Flushing.{bytes_done, bytes_next, flush_ask, flush_done, flush_next}
use Rattle.fkv_flush.specs.Serving.{mailbox_from, serve_ask, serve_next, serve_read}
use Rattle.fkv_log.specs.declared.moving.MoveAnswer.{MoveAnswer}
use Rattle.fkv_log.specs.declared.moving.MoveAnswer.TheVariants as moved
use Rattle.fkv_log.specs.declared.shifting.ShiftAnswer.{ShiftAnswer}
use Rattle.fkv_log.specs.declared.shifting.ShiftAnswer.TheVariants as shifted
use Rattle.fkv_log.specs.Shifting.{shift_ask, shift_next, shift_next_ask, shifting_ask}
use Rattle.fkv_log.specs.Turning.{turn_ask, turn_next, turn_next_ask, turning_ask}
use Rattle.fkv_maintain.specs.declared.maintaining.MaintainAnswer.TheVariants as answer
use Rattle.fkv_maintain.specs.declared.maintaining.Maintaining.{Maintaining}
use Rattle.fkv_maintain.specs.declared.maintaining.Maintaining.TheVariants.{Through, Spent, Broken, Scans, Claims, Flushes, Shifts, Turns, Serves}
use Rattle.fkv_maintain.specs.Maintaining.{MaintainState, maintain_begun, maintain_serving, device_asked, maintain_ask, maintain_given, maintain_next, maintain_called, maintaining_ask, maintaining_given, maintaining_next, maintaining_called, scan_ledto, claim_ledto, flush_ledto, shift_ledto, serve_ledto, serve_begun, turn_ledto, flush_begun, bytes_begun}
use Rattle.law_world.proofs.OfRuns.NoSlots.{IsOffSlots, passed_off}
use Rattle.law_world.proofs.OfRuns.InHand.Asks.{AtSlot, RunsNext, at_more, claim_at, off_at, passed_at, scan_off}
use Rattle.law_world.proofs.OfRuns.InHand.Moved.{ShiftAt, ShiftStays, TurnAt, TurnStays, shift_next_at, turn_next_at}

abbrev Stays : Shape → Places → MaintainState → Maintaining → Type 0
Stays shape p s step = is_done (maintain_ask shape p (maintaining_next shape p s step 0)) ≡ false

abbrev Runs : Shape → Places → MaintainState → Maintaining → Type 0
Runs shape p s step = (action : Action) → is_done (maintain_ask shape p (maintaining_given s step action)) ≡ false

abbrev At : Shape → Places → MaintainState → Maintaining → Type 0
At shape p s step = AtSlot (Stays shape p s step) (Runs shape p s step) (maintaining_ask shape p s step)

abbrev pub MaintainNow : Shape → Places → MaintainState → Type 0
MaintainNow shape p s = At shape p s s.step

there : (shape : Shape) (p : Places) (s : MaintainState) (step : Maintaining) → s.step ≡ step → At shape p s step → MaintainNow shape p s
there shape p s step at its = subst (λ (x : Maintaining). At shape p s x) (sym at) its

asks_on : (shape : Shape) (p : Places) (s : MaintainState) (step : Maintaining) → s.step ≡ step → is_done (maintaining_ask shape p s step) ≡ false → is_done (maintain_ask shape p s) ≡ false
asks_on shape p s step at asks = ap (λ (x : Maintaining). is_done (maintaining_ask shape p s x)) at ∙ asks

-- a flush and a serving ask for no slot
flush_off : (p : Places) (step : Flushing) → IsOffSlots (flush_ask p step)
unfolding flush_ask
flush_off p flush.AtRest = tt
flush_off p (flush.WritesPart part) = tt
flush_off p (flush.Syncs end) = tt
flush_off p step = tt

serve_off : (step : Serving) → IsOffSlots (serve_ask step)
unfolding serve_ask
serve_off serve.AtRest = tt
serve_off (serve.Reads session addr) = tt
serve_off step = tt

device_off : (ask : Ask DeviceAnswer) → IsOffSlots ask → IsOffSlots (device_asked ask)
unfolding device_asked passed
device_off (Put slot action) off = off
device_off (Take slot) off = off
device_off (Done device.Device) off = tt
device_off (Done device.Through) off = tt
device_off ask off = tt

claim_stays : (shape : Shape) (p : Places) (s : MaintainState) (ask : Ask (Unit {0})) → s.step ≡ Claims → claim_ask s.claiming ≡ ask → is_done ask ≡ false → is_done (maintain_ask shape p (claim_ledto s ask)) ≡ false
unfolding claim_ledto maintaining_ask
claim_stays shape p s (Done its) at same asks = cc
claim_stays shape p s ask at same asks = asks_on shape p s Claims at (passed_done (claim_ask s.claiming) answer.Through ∙ (ap is_done same ∙ asks))

shift_stays : (shape : Shape) (p : Places) (s : MaintainState) (ask : Ask ShiftAnswer) → s.step ≡ Shifts → is_done ask ≡ false → is_done (shift_ask s.shift) ≡ false → is_done (maintain_ask shape p (shift_ledto s ask)) ≡ false
unfolding shift_ledto maintaining_ask
shift_stays shape p s (Done (shifted.Through tail)) at asks after = cc
shift_stays shape p s (Done (shifted.NoSlot tail)) at asks after = cc
shift_stays shape p s (Done (shifted.Spent tail)) at asks after = cc
shift_stays shape p s ask at asks after = asks_on shape p s Shifts at (passed_done (shift_ask s.shift) answer.Through ∙ after)

turn_stays : (shape : Shape) (p : Places) (s : MaintainState) (ask : Ask MoveAnswer) → s.step ≡ Turns → is_done ask ≡ false → is_done (turn_ask shape s.turn) ≡ false → is_done (maintain_ask shape p (turn_ledto shape s ask)) ≡ false
unfolding turn_ledto maintaining_ask
turn_stays shape p s (Done moved.Through) at asks after = cc
turn_stays shape p s (Done moved.NoSlot) at asks after = cc
turn_stays shape p s (Done moved.Spent) at asks after = cc
turn_stays shape p s ask at asks after = asks_on shape p s Turns at (passed_done (turn_ask shape s.turn) answer.Through ∙ after)

claims_at : (shape : Shape) (p : Places) (s : MaintainState) → s.step ≡ Claims → At shape p s Claims
unfolding maintaining_ask maintaining_given
claims_at shape p s at = passed_at (Stays shape p s Claims) (Runs shape p s Claims) (claim_ask s.claiming) answer.Through
    (at_more (Stays shape p s Claims) (RunsNext s.claiming) (Stays shape p s Claims) (Runs shape p s Claims) (claim_ask s.claiming) (λ x. x)
    (λ runs action. claim_stays shape p (record s { claiming = claim_given s.claiming action }) (claim_ask (claim_given s.claiming action)) at refl (runs action)) (claim_at (Stays shape p s Claims) s.claiming))

shifts_at : (shape : Shape) (p : Places) (s : MaintainState) → s.step ≡ Shifts → ShiftAt shape (Runs shape p s Shifts) s.shift → At shape p s Shifts
unfolding maintaining_ask maintaining_next
shifts_at shape p s at its = passed_at (Stays shape p s Shifts) (Runs shape p s Shifts) (shift_ask s.shift) answer.Through
    (at_more (ShiftStays shape s.shift) (Runs shape p s Shifts) (Stays shape p s Shifts) (Runs shape p s Shifts) (shift_ask s.shift)
    (λ stays. shift_stays shape p (record s { shift = shift_next shape s.shift 0 }) (shift_next_ask shape s.shift 0) at stays.0 stays.1) (λ x. x) its)

turns_at : (shape : Shape) (p : Places) (s : MaintainState) → s.step ≡ Turns → TurnAt shape (Runs shape p s Turns) s.turn → At shape p s Turns
unfolding maintaining_ask maintaining_next
turns_at shape p s at its = passed_at (Stays shape p s Turns) (Runs shape p s Turns) (turn_ask shape s.turn) answer.Through
    (at_more (TurnStays shape s.turn) (Runs shape p s Turns) (Stays shape p s Turns) (Runs shape p s Turns) (turn_ask shape s.turn)
    (λ stays. turn_stays shape p (record s { turn = turn_next shape s.turn 0 }) (turn_next_ask shape s.turn 0) at stays.0 stays.1) (λ x. x) its)

off_now : (shape : Shape) (p : Places) (s : MaintainState) (step : Maintaining) → s.step ≡ step → IsOffSlots (maintaining_ask shape p s step) → MaintainNow shape p s
off_now shape p s step at off = there shape p s step at (off_at (Stays shape p s step) (Runs shape p s step) (maintaining_ask shape p s step) off)

-- by what the machines inside ask next
scanned : (shape : Shape) (p : Places) (s : MaintainState) (ask : Ask (Unit {0})) → s.step ≡ Scans → MaintainNow shape p (scan_ledto s ask)
unfolding scan_ledto maintaining_ask claim_ask passed
scanned shape p s (Done its) at = tt
scanned shape p s ask at = off_now shape p s Scans at (passed_off (scan_ask s.scanning) answer.Through (scan_off s.scanning))

-- a flush that begins, or is taken up
flush_begins : (shape : Shape) (p : Places) (s : MaintainState) (step : Flushing) (bytes : List ℕ) → MaintainNow shape p (record s { bytes = bytes; flushing = flush_begun step; step = Flushes })
unfolding maintaining_ask
flush_begins shape p s step bytes = let begun : MaintainState = record s { bytes = bytes; flushing = flush_begun step; step = Flushes } in off_now shape p begun Flushes refl (device_off (flush_ask p (flush_begun step)) (flush_off p (flush_begun step)))

claimed : (shape : Shape) (p : Places) (s : MaintainState) (ask : Ask (Unit {0})) → s.step ≡ Claims → MaintainNow shape p (claim_ledto s ask)
unfolding claim_ledto maintaining_ask
claimed shape p s (Done its) at = flush_begins shape p s s.flushing (bytes_begun s.flushing s.bytes)
claimed shape p s ask at = there shape p s Claims at (claims_at shape p s at)

flushed : (shape : Shape) (p : Places) (s : MaintainState) (ask : Ask DeviceAnswer) → s.step ≡ Flushes → MaintainNow shape p (flush_ledto s ask)
unfolding flush_ledto maintaining_ask shifting_ask passed
flushed shape p s (Done device.Through) at = tt
flushed shape p s ask at = off_now shape p s Flushes at (device_off (flush_ask p s.flushing) (flush_off p s.flushing))

shift_done : (shape : Shape) (p : Places) (s : MaintainState) (ask : Ask ShiftAnswer) → s.step ≡ Shifts → ((took : Type 0) → ShiftAt shape took s.shift) → MaintainNow shape p (shift_ledto s ask)
unfolding shift_ledto maintaining_ask turning_ask passed
shift_done shape p s (Done (shifted.Through tail)) at is = tt
shift_done shape p s (Done (shifted.NoSlot tail)) at is = tt
shift_done shape p s (Done (shifted.Spent tail)) at is = tt
shift_done shape p s ask at is = there shape p s Shifts at (shifts_at shape p s at (is (Runs shape p s Shifts)))

served : (shape : Shape) (p : Places) (s : MaintainState) (ask : Ask DeviceAnswer) → s.step ≡ Serves → MaintainNow shape p (serve_ledto s ask)
unfolding serve_ledto maintaining_ask
served shape p s (Done device.Through) at = tt
served shape p s ask at = off_now shape p s Serves at (device_off (serve_ask s.serving) (serve_off s.serving))

serves : (shape : Shape) (p : Places) (s : MaintainState) → MaintainNow shape p (serve_begun shape s)
serves shape p s = served shape p (record s { serving = mailbox_from shape.sessions 0; step = Serves }) (serve_ask (mailbox_from shape.sessions 0)) refl

turn_done : (shape : Shape) (p : Places) (s : MaintainState) (ask : Ask MoveAnswer) → s.step ≡ Turns → ((took : Type 0) → TurnAt shape took s.turn) → MaintainNow shape p (turn_ledto shape s ask)
unfolding turn_ledto maintaining_ask
turn_done shape p s (Done moved.Through) at is = serves shape p s
turn_done shape p s (Done moved.NoSlot) at is = serves shape p (record s { is_drain_full = true })
turn_done shape p s (Done moved.Spent) at is = tt
turn_done shape p s ask at is = there shape p s Turns at (turns_at shape p s at (is (Runs shape p s Turns)))

-- what it begins, and where each event leads
pub begun_now : (shape : Shape) (p : Places) (s : MaintainState) → MaintainNow shape p (maintain_begun s)
unfolding maintaining_ask scan_ask passed
begun_now shape p s = tt

pub serving_now : (shape : Shape) (p : Places) (s : MaintainState) → MaintainNow shape p (maintain_serving s)
unfolding maintaining_ask serve_ask device_asked passed
serving_now shape p s = tt

next_now : (shape : Shape) (p : Places) (s : MaintainState) (step : Maintaining) (reply : ℕ) → s.step ≡ step → MaintainNow shape p (maintaining_next shape p s step reply)
unfolding maintaining_next maintaining_ask
next_now shape p s Scans reply at = scanned shape p (record s { scanning = scan_next shape.sessions s.scanning reply }) _ at
next_now shape p s Claims reply at = claimed shape p (record s { claiming = claim_next s.claiming reply }) _ at
next_now shape p s Flushes reply at = flushed shape p (record s { bytes = bytes_next s.flushing s.bytes reply; flushing = flush_next shape.page s.flushing reply }) _ at
next_now shape p s Shifts reply at = shift_done shape p (record s { shift = shift_next shape s.shift reply }) _ at (λ took. shift_next_at shape took s.shift reply)
next_now shape p s Turns reply at = turn_done shape p (record s { turn = turn_next shape s.turn reply }) _ at (λ took. turn_next_at shape took s.turn reply)
next_now shape p s Serves reply at = served shape p (record s { serving = serve_next shape.sessions s.begin.0 s.serving reply }) _ at
next_now shape p s Through reply at = there shape p s Through at tt
next_now shape p s Spent reply at = there shape p s Spent at tt
next_now shape p s Broken reply at = there shape p s Broken at tt

pub maintain_next_now : (shape : Shape) (p : Places) (s : MaintainState) (reply : ℕ) → MaintainNow shape p (maintain_next shape p s reply)
maintain_next_now shape p s reply = next_now shape p s s.step reply refl

given_now : (shape : Shape) (p : Places) (s : MaintainState) (step : Maintaining) (action : Action) → s.step ≡ step → MaintainNow shape p s → MaintainNow shape p (maintaining_given s step action)
unfolding maintaining_given
given_now shape p s Claims action at now = claimed shape p (record s { claiming = claim_given s.claiming action }) _ at
given_now shape p s step action at now = now

pub maintain_given_now : (shape : Shape) (p : Places) (s : MaintainState) (action : Action) → MaintainNow shape p s → MaintainNow shape p (maintain_given s action)
maintain_given_now shape p s action now = given_now shape p s s.step action refl now

called_now : (shape : Shape) (p : Places) (s : MaintainState) (step : Maintaining) (done : Bool) (bytes : _) → s.step ≡ step → MaintainNow shape p s → MaintainNow shape p (maintaining_called shape p s step done bytes)
unfolding maintaining_called maintaining_ask
called_now shape p s Flushes true bytes at now = flushed shape p (record s { bytes = bytes_done s.flushing s.bytes; flushing = flush_done shape.page s.flushing true }) _ at
called_now shape p s Flushes false bytes at now = tt
called_now shape p s Serves true bytes at now = served shape p (record s { serving = serve_read s.serving bytes }) _ at
called_now shape p s Serves false bytes at now = tt
called_now shape p s step done bytes at now = now

pub maintain_called_now : (shape : Shape) (p : Places) (s : MaintainState) (done : Bool) (bytes : _) → MaintainNow shape p s → MaintainNow shape p (maintain_called shape p s done bytes)
maintain_called_now shape p s done bytes now = called_now shape p s s.step done bytes refl now
