-- A turn of the keeper asks or calls the device just where it has some left, and each reply, action and call leaves fewer.
use Rattle.std.proofs.Common.{◌≡◌, ℕ, ◌+◌, ◌-◌, ◌*◌, ◌<◌, ◌≤◌, ◌∙◌, refl, sym, ap, arith, List, [], Bool, true, false}
use Rattle.std.specs.Prelude.{if◌then◌else◌, None}
use Rattle.fkv_base.specs.Limits.{min_page, max_page, drain_slots}
use Rattle.fkv_base.specs.declared.numbers.Addr.{Addr}
use Rattle.fkv_base.specs.declared.shapes.Shape.{Shape}
use Rattle.fkv_base.proofs.Shown.{ring_between}
use Rattle.fkv_plane.specs.declared.actions.Action.{Action}
use Rattle.fkv_plane.specs.declared.asks.Ask.{Ask}
use Rattle.fkv_plane.specs.declared.asks.Ask.TheVariants.{Load, Store, Swap, Cas, Add, Max, Put, Take, Done}
use Rattle.fkv_plane.specs.declared.places.Places.{Places}
use Rattle.fkv_plane.specs.Passing.{is_done, passed}
use Rattle.fkv_plane.proofs.Shown.{passed_done, never, none, some_inside, some_sum, sum_most, sum_whole}
use Rattle.fkv_epoch.specs.declared.scanning.Scanning.TheVariants as scan
use Rattle.fkv_epoch.specs.declared.claiming.Claiming.TheVariants as claim
use Rattle.fkv_epoch.specs.Scanning.{scan_ask, scan_next, scan_asks_left}
use Rattle.fkv_epoch.specs.Claiming.{takes_action, claim_ask, claim_next, claim_given, claim_asks_left}
use Rattle.fkv_epoch.proofs.Shown.{scan_left, scan_fewer, claim_left, claim_fewer, claim_given_fewer}
use Rattle.fkv_log.specs.declared.moving.MoveAnswer.{MoveAnswer}
use Rattle.fkv_log.specs.declared.moving.MoveAnswer.TheVariants as moved
use Rattle.fkv_log.specs.declared.shifting.ShiftAnswer.{ShiftAnswer}
use Rattle.fkv_log.specs.declared.shifting.ShiftAnswer.TheVariants as shift
use Rattle.fkv_log.specs.declared.turning.TurnForm.TheVariants.{Whole}
use Rattle.fkv_log.specs.Shifting.{shift_begun, shift_ask, shift_next, shift_next_ask, shift_asks_left}
use Rattle.fkv_log.specs.Turning.{turn_begun, turn_ask, turn_next, turn_next_ask, turn_asks_left}
use Rattle.fkv_log.proofs.Shown.{shift_fewer, shift_begun_left, turn_fewer, turn_begun_left}
use Rattle.fkv_flush.specs.declared.answers.DeviceAnswer.{DeviceAnswer}
use Rattle.fkv_flush.specs.declared.answers.DeviceAnswer.TheVariants as device
use Rattle.fkv_flush.specs.declared.flushing.Flushing.{Flushing}
use Rattle.fkv_flush.specs.declared.flushing.Flushing.TheVariants as flush
use Rattle.fkv_flush.specs.declared.serving.Serving.{Serving}
use Rattle.fkv_flush.specs.Devices.{calls_asked}
use Rattle.fkv_flush.specs.Flushing.{flush_ask, flush_next, flush_done, bytes_next, bytes_done}
use Rattle.fkv_flush.specs.Serving.{serve_ask, serve_next, serve_read, mailbox_from}
use Rattle.fkv_flush.specs.AsksLeft.{is_through, flush_asks_left, most_flush_asks, serve_asks_left, most_serve_asks}
use Rattle.fkv_flush.specs.AsksLeft.{GoesOnWhereLeft as LeftBelow}
use Rattle.fkv_plane.specs.AsksLeft.{sum_left}
use Rattle.fkv_flush.proofs.Shown.{flush_left, flush_fewer, flush_done_fewer, serve_left, serve_begun_left, serve_fewer, serve_read_fewer}
use Rattle.fkv_maintain.proofs.TakesNone.{passed_takes, taking_asks, scan_takes, shift_takes, turn_takes, flush_takes, serve_takes}
use Rattle.fkv_maintain.specs.declared.maintaining.MaintainAnswer.{MaintainAnswer}
use Rattle.fkv_maintain.specs.declared.maintaining.MaintainAnswer.TheVariants as answer
use Rattle.fkv_maintain.specs.declared.maintaining.Maintaining.{Maintaining}
use Rattle.fkv_maintain.specs.declared.maintaining.Maintaining.TheVariants.{Through, Spent, Broken, Scans, Claims, Flushes, Shifts, Turns, Serves}
use Rattle.fkv_maintain.specs.Maintaining.{MaintainState, maintain_serving, device_asked, maintaining_made, maintain_made, maintain_calls_asked, maintaining_ask, maintain_ask, flush_told, flush_begun, bytes_begun, scan_ledto, claim_ledto, flush_ledto, turn_form, shift_ledto, serve_ledto, serve_begun, turn_ledto, maintaining_next, maintain_next, maintaining_given, maintain_given, maintaining_called, maintain_called}
use Rattle.fkv_maintain.specs.AsksLeft.{is_ended, GoesOnWhereLeft, from_mailboxes, from_page, from_shift, from_flush, from_claims, most_maintain_asks, unless_done, maintaining_asks_left, maintain_asks_left}

if_most : (b : Bool) (n : ℕ) → (if b then 0 else n) ≤ n
if_most true n = omega arith
if_most false n = omega arith

if_not : (b : Bool) (n : ℕ) → b ≡ false → (if b then 0 else n) ≡ n
if_not true n e = never e
if_not false n e = refl

-- it asks or calls just where it has some left

inside_goes : {A : Type 0} (ask : Ask A) (left : ℕ) → 0 < left → GoesOnWhereLeft (unless_done ask left) (passed ask answer.Through)
unfolding passed
inside_goes (Done its) left some = (never, none)
inside_goes (Load place) left some = (λ asks. some, λ left. refl)
inside_goes (Store place new) left some = (λ asks. some, λ left. refl)
inside_goes (Swap place new) left some = (λ asks. some, λ left. refl)
inside_goes (Cas place old new) left some = (λ asks. some, λ left. refl)
inside_goes (Add place k) left some = (λ asks. some, λ left. refl)
inside_goes (Max place k) left some = (λ asks. some, λ left. refl)
inside_goes (Put slot action) left some = (λ asks. some, λ left. refl)
inside_goes (Take slot) left some = (λ asks. some, λ left. refl)

device_ended : (ask : Ask DeviceAnswer) → is_ended (device_asked ask) ≡ is_through ask
unfolding device_asked passed
device_ended (Done device.Device) = refl
device_ended (Done device.Through) = refl
device_ended (Load place) = refl
device_ended (Store place new) = refl
device_ended (Swap place new) = refl
device_ended (Cas place old new) = refl
device_ended (Add place k) = refl
device_ended (Max place k) = refl
device_ended (Put slot action) = refl
device_ended (Take slot) = refl

device_done : (ask : Ask DeviceAnswer) → is_done (device_asked ask) ≡ is_done ask
unfolding device_asked passed
device_done (Done device.Device) = refl
device_done (Done device.Through) = refl
device_done (Load place) = refl
device_done (Store place new) = refl
device_done (Swap place new) = refl
device_done (Cas place old new) = refl
device_done (Add place k) = refl
device_done (Max place k) = refl
device_done (Put slot action) = refl
device_done (Take slot) = refl

device_takes : (ask : Ask DeviceAnswer) → takes_action (device_asked ask) ≡ takes_action ask
unfolding device_asked passed
device_takes (Done device.Device) = refl
device_takes (Done device.Through) = refl
device_takes (Load place) = refl
device_takes (Store place new) = refl
device_takes (Swap place new) = refl
device_takes (Cas place old new) = refl
device_takes (Add place k) = refl
device_takes (Max place k) = refl
device_takes (Put slot action) = refl
device_takes (Take slot) = refl

device_goes : (ask : Ask DeviceAnswer) (left : ℕ) → LeftBelow left ask → GoesOnWhereLeft left (device_asked ask)
device_goes ask left its = (λ e. its.0 (sym (device_ended ask) ∙ e), λ some. device_ended ask ∙ its.1 some)

sum_goes : (ask : Ask DeviceAnswer) (inside behind : ℕ) → LeftBelow inside ask → LeftBelow (sum_left inside behind) ask
sum_goes ask inside behind its = (λ e. some_sum inside behind (its.0 e), λ some. its.1 (some_inside inside behind some))

-- a turn that calls the device asks for it
device_calls : (ask : Ask DeviceAnswer) → calls_asked ask ≡ maintain_calls_asked (device_asked ask)
unfolding device_asked passed
device_calls (Done device.Device) = refl
device_calls (Done device.Through) = refl
device_calls (Load place) = refl
device_calls (Store place new) = refl
device_calls (Swap place new) = refl
device_calls (Cas place old new) = refl
device_calls (Add place k) = refl
device_calls (Max place k) = refl
device_calls (Put slot action) = refl
device_calls (Take slot) = refl

inside_calls : {A : Type 0} (ask : Ask A) → 0 ≡ maintain_calls_asked (passed ask answer.Through)
unfolding passed
inside_calls (Done its) = refl
inside_calls (Load place) = refl
inside_calls (Store place new) = refl
inside_calls (Swap place new) = refl
inside_calls (Cas place old new) = refl
inside_calls (Add place k) = refl
inside_calls (Max place k) = refl
inside_calls (Put slot action) = refl
inside_calls (Take slot) = refl

maintaining_asked_calls : (shape : Shape) (p : Places) (s : MaintainState) (step : Maintaining) → maintaining_made p s step ≡ maintain_calls_asked (maintaining_ask shape p s step)
unfolding maintaining_ask maintaining_made
maintaining_asked_calls shape p s Through = refl
maintaining_asked_calls shape p s Spent = refl
maintaining_asked_calls shape p s Broken = refl
maintaining_asked_calls shape p s Scans = inside_calls (scan_ask s.scanning)
maintaining_asked_calls shape p s Claims = inside_calls (claim_ask s.claiming)
maintaining_asked_calls shape p s Flushes = device_calls (flush_ask p s.flushing)
maintaining_asked_calls shape p s Shifts = inside_calls (shift_ask s.shift)
maintaining_asked_calls shape p s Turns = inside_calls (turn_ask shape s.turn)
maintaining_asked_calls shape p s Serves = device_calls (serve_ask s.serving)

pub maintain_asked_calls : (shape : Shape) (p : Places) (s : MaintainState) → maintain_made p s ≡ maintain_calls_asked (maintain_ask shape p s)
maintain_asked_calls shape p s = maintaining_asked_calls shape p s s.step

maintaining_left : (shape : Shape) (p : Places) (s : MaintainState) (step : Maintaining) → GoesOnWhereLeft (maintaining_asks_left shape s step) (maintaining_ask shape p s step)
unfolding maintaining_ask maintaining_asks_left
maintaining_left shape p s Through = (never, none)
maintaining_left shape p s Spent = (never, none)
maintaining_left shape p s Broken = (never, none)
maintaining_left shape p s Scans = inside_goes (scan_ask s.scanning) (scan_asks_left shape.sessions s.scanning + from_claims shape) (omega arith)
maintaining_left shape p s Claims = inside_goes (claim_ask s.claiming) (claim_asks_left s.claiming + from_flush shape) (omega arith)
maintaining_left shape p s Flushes = device_goes (flush_ask p s.flushing) (sum_left (flush_asks_left s.flushing) (from_shift shape)) (sum_goes (flush_ask p s.flushing) (flush_asks_left s.flushing) (from_shift shape) (flush_left p s.flushing))
maintaining_left shape p s Shifts = inside_goes (shift_ask s.shift) (shift_asks_left s.shift + from_page shape) (omega arith)
maintaining_left shape p s Turns = inside_goes (turn_ask shape s.turn) (turn_asks_left s.turn + from_mailboxes shape) (omega arith)
maintaining_left shape p s Serves = device_goes (serve_ask s.serving) (serve_asks_left shape.sessions s.serving) (serve_left shape.sessions s.serving)

pub maintain_left : (shape : Shape) (p : Places) (s : MaintainState) → GoesOnWhereLeft (maintain_asks_left shape s) (maintain_ask shape p s)
maintain_left shape p s = maintaining_left shape p s s.step

pub maintain_asked : (shape : Shape) (p : Places) (s : MaintainState) (ask : Ask MaintainAnswer) → ask ≡ maintain_ask shape p s → GoesOnWhereLeft (maintain_asks_left shape s) ask
maintain_asked shape p s ask e = rw e (maintain_left shape p s)

-- all of it
pub maintain_begun_left : (shape : Shape) (s : MaintainState) → s.step ≡ Scans → s.scanning ≡ scan.LoadsEpoch → maintain_asks_left shape s ≤ most_maintain_asks shape
unfolding maintaining_asks_left scan_asks_left
maintain_begun_left shape s at first = rw (at, first) (if_most (is_done (scan_ask scan.LoadsEpoch)) (shape.sessions + 2 + from_claims shape))

-- and of a turn that only serves
pub maintain_serving_left : (shape : Shape) (s : MaintainState) → maintain_asks_left shape (maintain_serving s) ≤ most_maintain_asks shape
unfolding maintaining_asks_left serve_asks_left
maintain_serving_left shape s = let some = shape.limits.some_session in omega (arith, some)

-- each part, as it begins

claims_left : (shape : Shape) (s : MaintainState) → maintain_asks_left shape (record s { claiming = claim.MeetsSlot 0 None; step = Claims }) ≤ from_claims shape
unfolding maintaining_asks_left claim_asks_left
claims_left shape s = if_most (is_done (claim_ask (claim.MeetsSlot 0 None))) (5 * (drain_slots - 0) + 1 + from_flush shape)

begun_most : (step : Flushing) → flush_asks_left (flush_begun step) ≤ most_flush_asks
unfolding flush_asks_left
begun_most (flush.Syncs end) = omega arith
begun_most flush.AtRest = omega arith
begun_most flush.LoadsFlushed = omega arith
begun_most (flush.LoadsEnd flushed) = omega arith
begun_most (flush.LoadsWord part addr word) = omega arith
begun_most (flush.WritesPart part) = omega arith
begun_most (flush.RaisesFlushed end) = omega arith

flush_begun_left : (shape : Shape) (s : MaintainState) (bytes : List ℕ) → maintain_asks_left shape (record s { bytes = bytes; flushing = flush_begun s.flushing; step = Flushes }) ≤ from_flush shape
unfolding maintaining_asks_left
flush_begun_left shape s bytes = let most = begun_most s.flushing in let sum = sum_most (flush_asks_left (flush_begun s.flushing)) (from_shift shape) in omega (arith, most, sum)

shifts_left : (shape : Shape) (s : MaintainState) → maintain_asks_left shape (record s { shift = shift_begun; step = Shifts }) ≤ from_shift shape
unfolding maintaining_asks_left
shifts_left shape s =
    let most = if_most (is_done (shift_ask shift_begun)) (shift_asks_left shift_begun + from_page shape) in
    let begun = shift_begun_left in
    omega (arith, most, begun)

turns_left : (shape : Shape) (s : MaintainState) (tail : Addr) → maintain_asks_left shape (turn_form s tail) ≤ from_page shape
unfolding maintaining_asks_left
turns_left shape s tail =
    let most = if_most (is_done (turn_ask shape (turn_begun Whole tail.0))) (turn_asks_left (turn_begun Whole tail.0) + from_mailboxes shape) in
    let begun = turn_begun_left Whole tail.0 in
    omega (arith, most, begun)

-- one step, by what the machine inside has left

inside_serve : (shape : Shape) (s : MaintainState) (old : ℕ) → s.step ≡ Serves → serve_asks_left shape.sessions s.serving < old → maintain_asks_left shape s < old
unfolding maintaining_asks_left
inside_serve shape s old at fewer = rw at fewer

serve_led : (shape : Shape) (s : MaintainState) (old : ℕ) (ask : Ask DeviceAnswer) → s.step ≡ Serves → serve_asks_left shape.sessions s.serving < old → maintain_asks_left shape (serve_ledto s ask) < old
unfolding serve_ledto maintaining_asks_left
serve_led shape s old (Done device.Through) at fewer = ended
  where
    ended : maintain_asks_left shape (record s { step = Through }) < old
    ended = omega (arith, fewer)
serve_led shape s old (Done device.Device) at fewer = inside_serve shape s old at fewer
serve_led shape s old ask at fewer = inside_serve shape s old at fewer

serves_left : (shape : Shape) (s : MaintainState) → maintain_asks_left shape (serve_begun shape s) ≤ from_mailboxes shape
serves_left shape s =
    let begun = serve_begun_left shape.sessions in
    let led = serve_led shape (record s { serving = mailbox_from shape.sessions 0; step = Serves }) (most_serve_asks shape.sessions + 1) (serve_ask (mailbox_from shape.sessions 0)) refl (omega (arith, begun)) in
    omega (arith, led)

inside_turn : (shape : Shape) (s : MaintainState) (old : ℕ) → s.step ≡ Turns → turn_asks_left s.turn < old → maintain_asks_left shape s < old + from_mailboxes shape
unfolding maintaining_asks_left
inside_turn shape s old at fewer =
    let most = if_most (is_done (turn_ask shape s.turn)) (turn_asks_left s.turn + from_mailboxes shape) in
    rw at (omega (arith, most, fewer))

turn_led : (shape : Shape) (s : MaintainState) (old : ℕ) (ask : Ask MoveAnswer) → s.step ≡ Turns → turn_asks_left s.turn < old → maintain_asks_left shape (turn_ledto shape s ask) < old + from_mailboxes shape
unfolding turn_ledto maintaining_asks_left
turn_led shape s old (Done moved.Through) at fewer = let begun = serves_left shape s in omega (arith, begun, fewer)
turn_led shape s old (Done moved.NoSlot) at fewer = let begun = serves_left shape (record s { is_drain_full = true }) in omega (arith, begun, fewer)
turn_led shape s old (Done moved.Spent) at fewer = ended
  where
    ended : maintain_asks_left shape (record s { step = Spent }) < old + from_mailboxes shape
    ended = omega (arith, fewer)
turn_led shape s old ask at fewer = inside_turn shape s old at fewer

inside_shift : (shape : Shape) (s : MaintainState) (old : ℕ) → s.step ≡ Shifts → shift_asks_left s.shift < old → maintain_asks_left shape s < old + from_page shape
unfolding maintaining_asks_left
inside_shift shape s old at fewer =
    let most = if_most (is_done (shift_ask s.shift)) (shift_asks_left s.shift + from_page shape) in
    rw at (omega (arith, most, fewer))

shift_led : (shape : Shape) (s : MaintainState) (old : ℕ) (ask : Ask ShiftAnswer) → s.step ≡ Shifts → shift_asks_left s.shift < old → maintain_asks_left shape (shift_ledto s ask) < old + from_page shape
unfolding shift_ledto maintaining_asks_left
shift_led shape s old (Done (shift.Through tail)) at fewer = let begun = turns_left shape s tail in omega (arith, begun, fewer)
shift_led shape s old (Done (shift.NoSlot tail)) at fewer = let begun = turns_left shape (record s { is_drain_full = true }) tail in omega (arith, begun, fewer)
shift_led shape s old (Done (shift.Spent tail)) at fewer = ended
  where
    ended : maintain_asks_left shape (record s { step = Spent }) < old + from_page shape
    ended = omega (arith, fewer)
shift_led shape s old ask at fewer = inside_shift shape s old at fewer

inside_flush : (shape : Shape) (s : MaintainState) (old : ℕ) → s.step ≡ Flushes → flush_asks_left s.flushing < old → maintain_asks_left shape s < old + from_shift shape
unfolding maintaining_asks_left
inside_flush shape s old at fewer = let most = sum_most (flush_asks_left s.flushing) (from_shift shape) in rw at (omega (arith, fewer, most))

flush_led : (shape : Shape) (s : MaintainState) (old : ℕ) (ask : Ask DeviceAnswer) → s.step ≡ Flushes → flush_asks_left s.flushing < old → maintain_asks_left shape (flush_ledto s ask) < old + from_shift shape
unfolding flush_ledto
flush_led shape s old (Done device.Through) at fewer = let begun = shifts_left shape s in omega (arith, begun, fewer)
flush_led shape s old (Done device.Device) at fewer = inside_flush shape s old at fewer
flush_led shape s old ask at fewer = inside_flush shape s old at fewer

inside_claim : (shape : Shape) (s : MaintainState) (old : ℕ) → s.step ≡ Claims → claim_asks_left s.claiming < old → maintain_asks_left shape s < old + from_flush shape
unfolding maintaining_asks_left
inside_claim shape s old at fewer =
    let most = if_most (is_done (claim_ask s.claiming)) (claim_asks_left s.claiming + from_flush shape) in
    rw at (omega (arith, most, fewer))

claim_led : (shape : Shape) (s : MaintainState) (old : ℕ) (ask : Ask (Unit {0})) → s.step ≡ Claims → claim_asks_left s.claiming < old → maintain_asks_left shape (claim_ledto s ask) < old + from_flush shape
unfolding claim_ledto
claim_led shape s old (Done its) at fewer = let begun = flush_begun_left shape s (bytes_begun s.flushing s.bytes) in omega (arith, begun, fewer)
claim_led shape s old ask at fewer = inside_claim shape s old at fewer

inside_scan : (shape : Shape) (s : MaintainState) (old : ℕ) → s.step ≡ Scans → scan_asks_left shape.sessions s.scanning < old → maintain_asks_left shape s < old + from_claims shape
unfolding maintaining_asks_left
inside_scan shape s old at fewer =
    let most = if_most (is_done (scan_ask s.scanning)) (scan_asks_left shape.sessions s.scanning + from_claims shape) in
    rw at (omega (arith, most, fewer))

scan_led : (shape : Shape) (s : MaintainState) (old : ℕ) (ask : Ask (Unit {0})) → s.step ≡ Scans → scan_asks_left shape.sessions s.scanning < old → maintain_asks_left shape (scan_ledto s ask) < old + from_claims shape
unfolding scan_ledto
scan_led shape s old (Done its) at fewer = let begun = claims_left shape s in omega (arith, begun, fewer)
scan_led shape s old ask at fewer = inside_scan shape s old at fewer

-- who asks for a word makes no call of the device
calls_none : (ask : Ask DeviceAnswer) → is_done ask ≡ false → calls_asked ask ≡ 0
calls_none (Done its) asks = never asks
calls_none ask asks = refl

some_page : (shape : Shape) → 0 < shape.page
some_page shape = let some : min_page ≤ shape.page = (ring_between shape.page min_page max_page shape.limits.page_size).0 in omega (arith, some)

not_through : (ask : Ask DeviceAnswer) → is_done ask ≡ false → is_through ask ≡ false
not_through (Done its) asks = never asks
not_through ask asks = refl

flush_falls : (p : Places) (page : ℕ) (step : Flushing) (reply : ℕ) → 0 < page → is_done (flush_ask p step) ≡ false → flush_asks_left (flush_next page step reply) < flush_asks_left step
flush_falls p page step reply some asks =
    let left = (flush_left p step).0 (not_through (flush_ask p step) asks) in
    let fewer = flush_fewer p page step reply some (calls_none (flush_ask p step) asks) in
    omega (arith, left, fewer)

serve_falls : (sessions begin : ℕ) (step : Serving) (reply : ℕ) → is_done (serve_ask step) ≡ false → serve_asks_left sessions (serve_next sessions begin step reply) < serve_asks_left sessions step
serve_falls sessions begin step reply asks =
    let left = (serve_left sessions step).0 (not_through (serve_ask step) asks) in
    let fewer = serve_fewer sessions begin step reply (calls_none (serve_ask step) asks) in
    omega (arith, left, fewer)

maintaining_fewer : (shape : Shape) (p : Places) (s : MaintainState) (step : Maintaining) (reply : ℕ) → s.step ≡ step → is_done (maintaining_ask shape p s step) ≡ false → takes_action (maintaining_ask shape p s step) ≡ false
    → maintain_asks_left shape (maintaining_next shape p s step reply) < maintaining_asks_left shape s step
unfolding maintaining_ask maintaining_next maintaining_asks_left
maintaining_fewer shape p s Through reply at asks takes = never asks
maintaining_fewer shape p s Spent reply at asks takes = never asks
maintaining_fewer shape p s Broken reply at asks takes = never asks
maintaining_fewer shape p s Scans reply at asks takes =
    let inside : is_done (scan_ask s.scanning) ≡ false = sym (passed_done (scan_ask s.scanning) answer.Through) ∙ asks in
    let whole = if_not (is_done (scan_ask s.scanning)) (scan_asks_left shape.sessions s.scanning + from_claims shape) inside in
    let some = (scan_left shape.sessions s.scanning).0 inside in
    let fewer = scan_fewer shape.sessions s.scanning reply in
    let next = scan_next shape.sessions s.scanning reply in
    let led = scan_led shape (record s { scanning = next }) (scan_asks_left shape.sessions s.scanning) (scan_ask next) at (omega (arith, fewer, some)) in
    omega (arith, whole, led)
maintaining_fewer shape p s Claims reply at asks takes =
    let inside : is_done (claim_ask s.claiming) ≡ false = sym (passed_done (claim_ask s.claiming) answer.Through) ∙ asks in
    let whole = if_not (is_done (claim_ask s.claiming)) (claim_asks_left s.claiming + from_flush shape) inside in
    let some = (claim_left s.claiming).0 inside in
    let fewer = claim_fewer s.claiming reply (sym (passed_takes (claim_ask s.claiming) answer.Through) ∙ takes) in
    let next = claim_next s.claiming reply in
    let led = claim_led shape (record s { claiming = next }) (claim_asks_left s.claiming) (claim_ask next) at (omega (arith, fewer, some)) in
    omega (arith, whole, led)
maintaining_fewer shape p s Flushes reply at asks takes =
    let inside : is_done (flush_ask p s.flushing) ≡ false = sym (device_done (flush_ask p s.flushing)) ∙ asks in
    let next = flush_next shape.page s.flushing reply in
    let fewer = flush_falls p shape.page s.flushing reply (some_page shape) inside in
    let whole = sum_whole (flush_asks_left s.flushing) (from_shift shape) (omega (arith, fewer)) in
    let led = flush_led shape (record s { bytes = bytes_next s.flushing s.bytes reply; flushing = next }) (flush_asks_left s.flushing) (flush_ask p next) at fewer in
    omega (arith, led, whole)
maintaining_fewer shape p s Shifts reply at asks takes =
    let inside : is_done (shift_ask s.shift) ≡ false = sym (passed_done (shift_ask s.shift) answer.Through) ∙ asks in
    let whole = if_not (is_done (shift_ask s.shift)) (shift_asks_left s.shift + from_page shape) inside in
    let fewer = shift_fewer shape s.shift reply inside in
    let led = shift_led shape (record s { shift = shift_next shape s.shift reply }) (shift_asks_left s.shift) (shift_next_ask shape s.shift reply) at fewer in
    omega (arith, whole, led)
maintaining_fewer shape p s Turns reply at asks takes =
    let inside : is_done (turn_ask shape s.turn) ≡ false = sym (passed_done (turn_ask shape s.turn) answer.Through) ∙ asks in
    let whole = if_not (is_done (turn_ask shape s.turn)) (turn_asks_left s.turn + from_mailboxes shape) inside in
    let fewer = turn_fewer shape s.turn reply inside in
    let led = turn_led shape (record s { turn = turn_next shape s.turn reply }) (turn_asks_left s.turn) (turn_next_ask shape s.turn reply) at fewer in
    omega (arith, whole, led)
maintaining_fewer shape p s Serves reply at asks takes =
    let inside : is_done (serve_ask s.serving) ≡ false = sym (device_done (serve_ask s.serving)) ∙ asks in
    let next = serve_next shape.sessions s.begin.0 s.serving reply in
    let fewer = serve_falls shape.sessions s.begin.0 s.serving reply inside in
    let led = serve_led shape (record s { serving = next }) (serve_asks_left shape.sessions s.serving) (serve_ask next) at fewer in
    omega (arith, led)

-- each reply leaves fewer, where a word is asked for
pub maintain_fewer : (shape : Shape) (p : Places) (s : MaintainState) (reply : ℕ) → is_done (maintain_ask shape p s) ≡ false → takes_action (maintain_ask shape p s) ≡ false
    → maintain_asks_left shape (maintain_next shape p s reply) < maintain_asks_left shape s
maintain_fewer shape p s reply asks takes = maintaining_fewer shape p s s.step reply refl asks takes

-- and each action that it waits for
maintaining_given_fewer : (shape : Shape) (p : Places) (s : MaintainState) (step : Maintaining) (action : Action) → s.step ≡ step → takes_action (maintaining_ask shape p s step) ≡ true
    → maintain_asks_left shape (maintaining_given s step action) < maintaining_asks_left shape s step
unfolding maintaining_ask maintaining_given maintaining_asks_left
maintaining_given_fewer shape p s Through action at takes = cc
maintaining_given_fewer shape p s Spent action at takes = cc
maintaining_given_fewer shape p s Broken action at takes = cc
maintaining_given_fewer shape p s Scans action at takes = never (sym takes ∙ passed_takes (scan_ask s.scanning) answer.Through ∙ scan_takes s.scanning)
maintaining_given_fewer shape p s Claims action at takes =
    let its = sym (passed_takes (claim_ask s.claiming) answer.Through) ∙ takes in
    let inside = taking_asks (claim_ask s.claiming) its in
    let whole = if_not (is_done (claim_ask s.claiming)) (claim_asks_left s.claiming + from_flush shape) inside in
    let some = (claim_left s.claiming).0 inside in
    let fewer = claim_given_fewer s.claiming action its in
    let next = claim_given s.claiming action in
    let led = claim_led shape (record s { claiming = next }) (claim_asks_left s.claiming) (claim_ask next) at (omega (arith, fewer, some)) in
    omega (arith, whole, led)
maintaining_given_fewer shape p s Flushes action at takes = never (sym takes ∙ device_takes (flush_ask p s.flushing) ∙ flush_takes p s.flushing)
maintaining_given_fewer shape p s Shifts action at takes = never (sym takes ∙ passed_takes (shift_ask s.shift) answer.Through ∙ shift_takes s.shift)
maintaining_given_fewer shape p s Turns action at takes = never (sym takes ∙ passed_takes (turn_ask shape s.turn) answer.Through ∙ turn_takes shape s.turn)
maintaining_given_fewer shape p s Serves action at takes = never (sym takes ∙ device_takes (serve_ask s.serving) ∙ serve_takes s.serving)

pub maintain_given_fewer : (shape : Shape) (p : Places) (s : MaintainState) (action : Action) → takes_action (maintain_ask shape p s) ≡ true → maintain_asks_left shape (maintain_given s action) < maintain_asks_left shape s
maintain_given_fewer shape p s action takes = maintaining_given_fewer shape p s s.step action refl takes

-- and each call of the device. One that failed ends the turn
flush_called : (shape : Shape) (p : Places) (s : MaintainState) (bytes : List ℕ) (step : Flushing) → s.step ≡ Flushes → device_asked (flush_ask p step) ≡ Done answer.Device
    → maintain_asks_left shape (flush_ledto (record s { bytes = bytes; flushing = flush_done shape.page step true }) (flush_told shape p (flush_done shape.page step true))) < sum_left (flush_asks_left step) (from_shift shape)
flush_called shape p s bytes step at asks =
    let one : calls_asked (flush_ask p step) ≡ 1 = device_calls (flush_ask p step) ∙ ap maintain_calls_asked asks in
    let left = (flush_left p step).0 (sym (device_ended (flush_ask p step)) ∙ ap is_ended asks) in
    let fewer = flush_done_fewer p shape.page step true (some_page shape) in
    let whole = sum_whole (flush_asks_left step) (from_shift shape) left in
    let next = flush_done shape.page step true in
    let led = flush_led shape (record s { bytes = bytes; flushing = next }) (flush_asks_left step) (flush_told shape p next) at (omega (arith, one, left, fewer)) in
    omega (arith, whole, led)

serve_called : (shape : Shape) (s : MaintainState) (bytes : List ℕ) (step : Serving) → s.step ≡ Serves → device_asked (serve_ask step) ≡ Done answer.Device
    → maintain_asks_left shape (serve_ledto (record s { serving = serve_read step bytes }) (serve_ask (serve_read step bytes))) < serve_asks_left shape.sessions step
serve_called shape s bytes step at asks =
    let one : calls_asked (serve_ask step) ≡ 1 = device_calls (serve_ask step) ∙ ap maintain_calls_asked asks in
    let left = (serve_left shape.sessions step).0 (sym (device_ended (serve_ask step)) ∙ ap is_ended asks) in
    let fewer = serve_read_fewer shape.sessions step bytes in
    let next = serve_read step bytes in
    serve_led shape (record s { serving = next }) (serve_asks_left shape.sessions step) (serve_ask next) at (omega (arith, one, left, fewer))

ends_no_part : {A : Type 0} (ask : Ask A) → passed ask answer.Through ≡ Done answer.Device → ⊥
unfolding passed
ends_no_part (Done its) e = cc
ends_no_part (Load place) e = cc
ends_no_part (Store place new) e = cc
ends_no_part (Swap place new) e = cc
ends_no_part (Cas place old new) e = cc
ends_no_part (Add place k) e = cc
ends_no_part (Max place k) e = cc
ends_no_part (Put slot action) e = cc
ends_no_part (Take slot) e = cc

maintaining_called_fewer : (shape : Shape) (p : Places) (s : MaintainState) (step : Maintaining) (done : Bool) (bytes : List ℕ) → s.step ≡ step → maintaining_ask shape p s step ≡ Done answer.Device
    → maintain_asks_left shape (maintaining_called shape p s step done bytes) < maintaining_asks_left shape s step
unfolding maintaining_ask maintaining_called maintaining_asks_left
maintaining_called_fewer shape p s Through done bytes at asks = cc
maintaining_called_fewer shape p s Spent done bytes at asks = cc
maintaining_called_fewer shape p s Broken done bytes at asks = cc
maintaining_called_fewer shape p s Scans done bytes at asks = absurd (ends_no_part (scan_ask s.scanning) asks)
maintaining_called_fewer shape p s Claims done bytes at asks = absurd (ends_no_part (claim_ask s.claiming) asks)
maintaining_called_fewer shape p s Flushes true bytes at asks =
    flush_called shape p s (bytes_done s.flushing s.bytes) s.flushing at asks
maintaining_called_fewer shape p s Flushes false bytes at asks =
    some_sum (flush_asks_left s.flushing) (from_shift shape) ((flush_left p s.flushing).0 (sym (device_ended (flush_ask p s.flushing)) ∙ ap is_ended asks))
maintaining_called_fewer shape p s Shifts done bytes at asks = absurd (ends_no_part (shift_ask s.shift) asks)
maintaining_called_fewer shape p s Turns done bytes at asks = absurd (ends_no_part (turn_ask shape s.turn) asks)
maintaining_called_fewer shape p s Serves true bytes at asks =
    serve_called shape s bytes s.serving at asks
maintaining_called_fewer shape p s Serves false bytes at asks = (serve_left shape.sessions s.serving).0 (sym (device_ended (serve_ask s.serving)) ∙ ap is_ended asks)

pub maintain_called_fewer : (shape : Shape) (p : Places) (s : MaintainState) (done : Bool) (bytes : List ℕ) → maintain_ask shape p s ≡ Done answer.Device
    → maintain_asks_left shape (maintain_called shape p s done bytes) < maintain_asks_left shape s
maintain_called_fewer shape p s done bytes asks = maintaining_called_fewer shape p s s.step done bytes refl asks

pub broken_none : (shape : Shape) (s : MaintainState) → s.step ≡ Broken → maintain_asks_left shape s ≡ 0
unfolding maintaining_asks_left
broken_none shape s at = rw at refl

pub broken_fewer : (shape : Shape) (p : Places) (s next : MaintainState) → next.step ≡ Broken → maintain_ask shape p s ≡ Done answer.Device → maintain_asks_left shape next < maintain_asks_left shape s
broken_fewer shape p s next at asks =
    let ended = broken_none shape next at in
    let some = (maintain_left shape p s).0 (rw asks refl) in
    omega (arith, ended, some)
