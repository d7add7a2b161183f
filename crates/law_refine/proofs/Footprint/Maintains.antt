-- What every turn of the keeper does spares each part, but the mailbox that it serves.
use Rattle.std.proofs.Common.{◌≡◌, ℕ, refl, sym, subst, arith, Bool, true, false}
use Rattle.std.specs.Prelude.{⊤, List}
use Rattle.fkv_base.specs.declared.shapes.Shape.{Shape}
use Rattle.fkv_plane.specs.declared.actions.Action.{Action}
use Rattle.fkv_plane.specs.declared.asks.Ask.{Ask}
use Rattle.fkv_plane.specs.declared.asks.Ask.TheVariants.{Done}
use Rattle.fkv_plane.specs.declared.places.Places.{Places}
use Rattle.fkv_plane.specs.Passing.{passed}
use Rattle.fkv_epoch.specs.Claiming.{IsClaimInRange, claim_next, claim_given}
use Rattle.fkv_epoch.specs.Scanning.{scan_next}
use Rattle.law_world.specs.Below.fkv_flush.DeviceAnswer.{DeviceAnswer}
use Rattle.law_world.specs.Below.fkv_flush.DeviceAnswer.TheVariants as device
use Rattle.law_world.specs.Below.fkv_flush.Flushing.{flush_ask, flush_next, flush_done, bytes_next, bytes_done}
use Rattle.law_world.specs.Below.fkv_flush.Serving.{serve_ask, serve_next, serve_read, mailbox_from}
use Rattle.law_world.specs.Below.fkv_log.MoveAnswer.{MoveAnswer}
use Rattle.law_world.specs.Below.fkv_log.MoveAnswer.TheVariants as moved
use Rattle.law_world.specs.Below.fkv_log.ShiftAnswer.{ShiftAnswer}
use Rattle.law_world.specs.Below.fkv_log.ShiftAnswer.TheVariants as shift
use Rattle.law_world.specs.Below.fkv_log.Shifting.{shift_next}
use Rattle.law_world.specs.Below.fkv_log.Turning.{turn_next}
use Rattle.law_world.specs.Below.fkv_maintain.TheMaintaining.{Maintaining}
use Rattle.law_world.specs.Below.fkv_maintain.TheMaintaining.TheVariants.{Through, Spent, Broken, Scans, Claims, Flushes, Shifts, Turns, Serves}
use Rattle.law_world.specs.Below.fkv_maintain.Maintaining.{MaintainState, maintain_begun, maintain_serving as serving_begun, device_asked, maintaining_ask, maintain_ask, scan_ledto, claim_ledto, flush_ledto, shift_ledto, serve_ledto, serve_begun, turn_ledto, maintaining_next, maintain_next, maintaining_given, maintain_given, maintaining_called, maintain_called}
use Rattle.law_refine.specs.Mail.Servers.{maintain_serving}
use Rattle.law_refine.specs.Footprint.{Part, ThePhase, HasSeats, Spares, stores_phase}
use Rattle.law_refine.proofs.Footprint.Latching.{passed_spares}
use Rattle.law_refine.proofs.Footprint.Epochs.{scan_spares, claim_spares, claim_range, claim_given_range}
use Rattle.law_refine.proofs.Footprint.Moves.{IsShiftInRange, shift_spares, shift_range, IsTurnInRange, turn_spares, turn_range}
use Rattle.law_refine.proofs.Footprint.Serves.{flush_spares, ServesBelow, IsServedNot, serve_spares, mailbox_below, serve_below, read_below}

-- the drain slots are those that there are, and the mailboxes those of so many sessions
abbrev pub MaintainBounds : ℕ → MaintainState → Maintaining → Type 0
MaintainBounds n s Claims = IsClaimInRange s.claiming
MaintainBounds n s Shifts = IsShiftInRange s.shift
MaintainBounds n s Turns = IsTurnInRange s.turn
MaintainBounds n s Serves = ServesBelow n s.serving
MaintainBounds n s step = ⊤

abbrev pub IsMaintainSparing : ℕ → MaintainState → Type 0
IsMaintainSparing n s = MaintainBounds n s s.step

-- it is about to store a phase
abbrev pub maintain_stores : MaintainState → Maintaining → Bool
maintain_stores s Claims = stores_phase s.claiming
maintain_stores s step = false

-- what it asks for
device_spares : (part : Part) (p : Places) (ask : Ask DeviceAnswer) → Spares part p ask → Spares part p (device_asked ask)
unfolding device_asked passed
device_spares part p (Done device.Device) spares = tt
device_spares part p (Done device.Through) spares = tt
device_spares part p ask spares = spares

maintaining_spares : (part : Part) (shape : Shape) (p : Places) (n : ℕ) (s : MaintainState) (step : Maintaining) → (part ≡ ThePhase → maintain_stores s step ≡ false) → HasSeats part p n → MaintainBounds n s step → IsServedNot part (maintain_serving s step) → Spares part p (maintaining_ask shape p s step)
unfolding maintaining_ask
maintaining_spares part shape p n s Scans apart few bounds none = passed_spares part p _ _ (scan_spares part p s.scanning)
maintaining_spares part shape p n s Claims apart few bounds none = passed_spares part p _ _ (claim_spares part p s.claiming bounds apart)
maintaining_spares part shape p n s Flushes apart few bounds none = device_spares part p (flush_ask p s.flushing) (flush_spares part p s.flushing)
maintaining_spares part shape p n s Shifts apart few bounds none = passed_spares part p _ _ (shift_spares part p s.shift bounds)
maintaining_spares part shape p n s Turns apart few bounds none = passed_spares part p _ _ (turn_spares part p shape s.turn bounds)
maintaining_spares part shape p n s Serves apart few bounds none = device_spares part p (serve_ask s.serving) (serve_spares part p n s.serving few bounds none)
maintaining_spares part shape p n s step apart few bounds none = tt

pub maintain_spares : (part : Part) (shape : Shape) (p : Places) (n : ℕ) (s : MaintainState) → (part ≡ ThePhase → maintain_stores s s.step ≡ false) → HasSeats part p n → IsMaintainSparing n s → IsServedNot part (maintain_serving s s.step) → Spares part p (maintain_ask shape p s)
maintain_spares part shape p n s apart few bounds none = maintaining_spares part shape p n s s.step apart few bounds none

-- where a reply leads
stays_spares : (n : ℕ) (s : MaintainState) (step : Maintaining) → s.step ≡ step → MaintainBounds n s step → IsMaintainSparing n s
stays_spares n s step at bounds = subst (λ x. MaintainBounds n s x) (sym at) bounds

scanned : (n : ℕ) (s : MaintainState) (ask : Ask (Unit {0})) → s.step ≡ Scans → IsMaintainSparing n (scan_ledto s ask)
unfolding scan_ledto
scanned n s (Done its) at = omega arith
scanned n s ask at = stays_spares n s Scans at tt

claimed : (n : ℕ) (s : MaintainState) (ask : Ask (Unit {0})) → s.step ≡ Claims → IsClaimInRange s.claiming → IsMaintainSparing n (claim_ledto s ask)
unfolding claim_ledto
claimed n s (Done its) at range = tt
claimed n s ask at range = stays_spares n s Claims at range

flushed : (n : ℕ) (s : MaintainState) (ask : Ask DeviceAnswer) → s.step ≡ Flushes → IsMaintainSparing n (flush_ledto s ask)
unfolding flush_ledto
flushed n s (Done device.Through) at = tt
flushed n s ask at = stays_spares n s Flushes at tt

shifted : (n : ℕ) (s : MaintainState) (ask : Ask ShiftAnswer) → s.step ≡ Shifts → IsShiftInRange s.shift → IsMaintainSparing n (shift_ledto s ask)
unfolding shift_ledto
shifted n s (Done (shift.Through tail)) at range = tt
shifted n s (Done (shift.NoSlot tail)) at range = tt
shifted n s (Done (shift.Spent tail)) at range = tt
shifted n s ask at range = stays_spares n s Shifts at range

served : (n : ℕ) (s : MaintainState) (ask : Ask DeviceAnswer) → s.step ≡ Serves → ServesBelow n s.serving → IsMaintainSparing n (serve_ledto s ask)
unfolding serve_ledto
served n s (Done device.Through) at low = tt
served n s ask at low = stays_spares n s Serves at low

serves : (shape : Shape) (s : MaintainState) → IsMaintainSparing shape.sessions (serve_begun shape s)
serves shape s = served shape.sessions (record s { serving = mailbox_from shape.sessions 0; step = Serves }) (serve_ask (mailbox_from shape.sessions 0)) refl (mailbox_below shape.sessions 0)

turned : (shape : Shape) (s : MaintainState) (ask : Ask MoveAnswer) → s.step ≡ Turns → IsTurnInRange s.turn → IsMaintainSparing shape.sessions (turn_ledto shape s ask)
unfolding turn_ledto
turned shape s (Done moved.Through) at range = serves shape s
turned shape s (Done moved.NoSlot) at range = serves shape (record s { is_drain_full = true })
turned shape s (Done moved.Spent) at range = tt
turned shape s ask at range = stays_spares shape.sessions s Turns at range

next_spares : (shape : Shape) (p : Places) (s : MaintainState) (step : Maintaining) (reply : ℕ) → s.step ≡ step → MaintainBounds shape.sessions s step → IsMaintainSparing shape.sessions (maintaining_next shape p s step reply)
unfolding maintaining_next
next_spares shape p s Scans reply at bounds = scanned shape.sessions (record s { scanning = scan_next shape.sessions s.scanning reply }) _ at
next_spares shape p s Claims reply at bounds = claimed shape.sessions (record s { claiming = claim_next s.claiming reply }) _ at (claim_range s.claiming reply bounds)
next_spares shape p s Flushes reply at bounds = flushed shape.sessions (record s { bytes = bytes_next s.flushing s.bytes reply; flushing = flush_next shape.page s.flushing reply }) _ at
next_spares shape p s Shifts reply at bounds = shifted shape.sessions (record s { shift = shift_next shape s.shift reply }) _ at (shift_range shape s.shift reply bounds)
next_spares shape p s Turns reply at bounds = turned shape (record s { turn = turn_next shape s.turn reply }) _ at (turn_range shape s.turn reply bounds)
next_spares shape p s Serves reply at bounds =
    served shape.sessions (record s { serving = serve_next shape.sessions s.begin.0 s.serving reply }) _ at
    (serve_below shape.sessions s.begin.0 s.serving reply bounds)
next_spares shape p s step reply at bounds = stays_spares shape.sessions s step at tt

-- each reply, each action, and each call of the device
pub maintain_next_spares : (shape : Shape) (p : Places) (s : MaintainState) (reply : ℕ) → IsMaintainSparing shape.sessions s → IsMaintainSparing shape.sessions (maintain_next shape p s reply)
maintain_next_spares shape p s reply bounds = next_spares shape p s s.step reply refl bounds

given_spares : (n : ℕ) (s : MaintainState) (step : Maintaining) (action : Action) → s.step ≡ step → MaintainBounds n s step → IsMaintainSparing n (maintaining_given s step action)
unfolding maintaining_given
given_spares n s Claims action at bounds = claimed n (record s { claiming = claim_given s.claiming action }) _ at (claim_given_range s.claiming action bounds)
given_spares n s step action at bounds = stays_spares n s step at bounds

pub maintain_given_spares : (n : ℕ) (s : MaintainState) (action : Action) → IsMaintainSparing n s → IsMaintainSparing n (maintain_given s action)
maintain_given_spares n s action bounds = given_spares n s s.step action refl bounds

called_spares : (shape : Shape) (p : Places) (n : ℕ) (s : MaintainState) (step : Maintaining) (done : Bool) (bytes : List ℕ) → s.step ≡ step → MaintainBounds n s step → IsMaintainSparing n (maintaining_called shape p s step done bytes)
unfolding maintaining_called
called_spares shape p n s Flushes true bytes at bounds = flushed n (record s { bytes = bytes_done s.flushing s.bytes; flushing = flush_done shape.page s.flushing true }) _ at
called_spares shape p n s Flushes false bytes at bounds = tt
called_spares shape p n s Serves true bytes at bounds = served n (record s { serving = serve_read s.serving bytes }) _ at (read_below n s.serving bytes bounds)
called_spares shape p n s Serves false bytes at bounds = tt
called_spares shape p n s Through done bytes at bounds = stays_spares n s Through at bounds
called_spares shape p n s Spent done bytes at bounds = stays_spares n s Spent at bounds
called_spares shape p n s Broken done bytes at bounds = stays_spares n s Broken at bounds
called_spares shape p n s Scans done bytes at bounds = stays_spares n s Scans at bounds
called_spares shape p n s Claims done bytes at bounds = stays_spares n s Claims at bounds
called_spares shape p n s Shifts done bytes at bounds = stays_spares n s Shifts at bounds
called_spares shape p n s Turns done bytes at bounds = stays_spares n s Turns at bounds

pub maintain_called_spares : (shape : Shape) (p : Places) (n : ℕ) (s : MaintainState) (done : Bool) (bytes : List ℕ) → IsMaintainSparing n s → IsMaintainSparing n (maintain_called shape p s done bytes)
maintain_called_spares shape p n s done bytes bounds = called_spares shape p n s s.step done bytes refl bounds

pub maintain_begun_spares : (n : ℕ) (s : MaintainState) → IsMaintainSparing n (maintain_begun s)
maintain_begun_spares n s = tt

pub serving_begun_spares : (shape : Shape) (s : MaintainState) → IsMaintainSparing shape.sessions (serving_begun s)
serving_begun_spares shape s = shape.limits.some_session
