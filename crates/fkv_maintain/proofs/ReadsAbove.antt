-- Each read for a mailbox is at or above the log's begin.
use Rattle.std.proofs.Common.{◌≡◌, ℕ, ◌+◌, ◌≤◌, ◌^◌, List, refl, sym, subst, Bool, true, false, arith}
use Rattle.std.specs.Prelude.{nat_lt, ◌==◌, if◌then◌else◌, ⊤}
use Rattle.std.proofs.lemmas.Bool.Decides.{nat_tests}
use Rattle.fkv_base.specs.declared.shapes.Shape.{Shape}
use Rattle.fkv_plane.specs.declared.actions.Action.{Action}
use Rattle.fkv_plane.specs.declared.asks.Ask.{Ask}
use Rattle.fkv_plane.specs.declared.asks.Ask.TheVariants.{Done}
use Rattle.fkv_plane.specs.declared.places.Places.{Places}
use Rattle.fkv_epoch.specs.Scanning.{scan_ask, scan_next}
use Rattle.fkv_epoch.specs.Claiming.{claim_ask, claim_next, claim_given}
use Rattle.fkv_log.specs.declared.moving.MoveAnswer.{MoveAnswer}
use Rattle.fkv_log.specs.declared.moving.MoveAnswer.TheVariants as moved
use Rattle.fkv_log.specs.declared.shifting.ShiftAnswer.{ShiftAnswer}
use Rattle.fkv_log.specs.declared.shifting.ShiftAnswer.TheVariants as shift
use Rattle.fkv_log.specs.Shifting.{shift_next, shift_next_ask}
use Rattle.fkv_log.specs.Turning.{turn_next, turn_next_ask}
use Rattle.fkv_flush.specs.declared.answers.DeviceAnswer.{DeviceAnswer}
use Rattle.fkv_flush.specs.declared.answers.DeviceAnswer.TheVariants as device
use Rattle.fkv_flush.specs.declared.serving.Serving.{Serving}
use Rattle.fkv_flush.specs.declared.serving.Serving.TheVariants as serving
use Rattle.fkv_flush.specs.Flushing.{flush_ask, flush_next, flush_done, bytes_next, bytes_done}
use Rattle.fkv_flush.specs.Serving.{asked_state, gone_mail, serve_ask, serve_next, serve_read, mailbox_from}
use Rattle.fkv_maintain.specs.declared.maintaining.Maintaining.{Maintaining}
use Rattle.fkv_maintain.specs.declared.maintaining.Maintaining.TheVariants.{Through, Spent, Broken, Scans, Claims, Flushes, Shifts, Turns, Serves}
use Rattle.fkv_maintain.specs.Maintaining.{MaintainState, flush_told, scan_ledto, claim_ledto, flush_ledto, shift_ledto, turn_ledto, serve_ledto, serve_begun, maintaining_next, maintain_next, maintaining_given, maintain_given, maintaining_called, maintain_called}
use Rattle.fkv_maintain.specs.MaintainRun.{Replies, Gets, Calls, maintain_happens}
use Rattle.fkv_maintain.specs.Parts.{ServesAbove, AboveAt, ReadsAbove, StaysAbove}

either : (b : Bool) (begin : ℕ) (x y : Serving) → (b ≡ true → ServesAbove begin x) → (b ≡ false → ServesAbove begin y) → ServesAbove begin (if b then x else y)
either true begin x y one other = one refl
either false begin x y one other = other refl

mailbox_above : (begin sessions session : ℕ) → ServesAbove begin (mailbox_from sessions session)
unfolding mailbox_from
mailbox_above begin sessions session = either (nat_lt session sessions) begin (serving.LoadsState session) serving.AtRest (λ e. tt) (λ e. tt)

serve_above : (sessions begin : ℕ) (step : Serving) (reply : ℕ) → ServesAbove begin step → ServesAbove begin (serve_next sessions begin step reply)
unfolding serve_next
serve_above sessions begin serving.AtRest reply above = tt
serve_above sessions begin (serving.LoadsState session) reply above =
    either (reply == asked_state) begin (serving.LoadsAddress session) (mailbox_from sessions (session + 1)) (λ e. tt) (λ e. mailbox_above begin sessions (session + 1))
serve_above sessions begin (serving.LoadsAddress session) reply above =
    either (nat_lt reply begin) begin (serving.StoresHeader session (gone_mail begin)) (if nat_lt reply (2 ^ 48) then serving.Reads session reply else mailbox_from sessions (session + 1))
    (λ gone. tt)
    (λ e. either (nat_lt reply (2 ^ 48)) begin (serving.Reads session reply) (mailbox_from sessions (session + 1))
    (λ within. let above : begin ≤ reply = grind (arith, nat_tests, e) in above)
    (λ past. mailbox_above begin sessions (session + 1)))
serve_above sessions begin (serving.Reads session addr) reply above = above
serve_above sessions begin (serving.StoresHeader session mail) reply above = tt
serve_above sessions begin (serving.StoresKey session mail) reply above = tt
serve_above sessions begin (serving.StoresValue session mail) reply above = tt
serve_above sessions begin (serving.StoresReady session) reply above = mailbox_above begin sessions (session + 1)

read_above : (begin : ℕ) (step : Serving) (bytes : List ℕ) → ServesAbove begin step → ServesAbove begin (serve_read step bytes)
unfolding serve_read
read_above begin (serving.Reads session addr) bytes above = tt
read_above begin step bytes above = above

-- in another part nothing is read for a mailbox
apart : (m : MaintainState) (step : Maintaining) → m.step ≡ step → AboveAt m step → ReadsAbove m
apart m step at above = subst (λ (its : Maintaining). AboveAt m its) (sym at) above

-- whatever the part is
in_any : (m : MaintainState) (step : Maintaining) → ServesAbove m.begin.0 m.serving → AboveAt m step
in_any m Serves above = above
in_any m step above = tt

scan_on : (m : MaintainState) (ask : Ask (Unit {0})) → m.step ≡ Scans → ReadsAbove (scan_ledto m ask)
unfolding scan_ledto
scan_on m (Done its) at = tt
scan_on m ask at = apart m Scans at tt

claim_on : (m : MaintainState) (ask : Ask (Unit {0})) → m.step ≡ Claims → ReadsAbove (claim_ledto m ask)
unfolding claim_ledto
claim_on m (Done its) at = tt
claim_on m ask at = apart m Claims at tt

flush_on : (m : MaintainState) (ask : Ask DeviceAnswer) → m.step ≡ Flushes → ReadsAbove (flush_ledto m ask)
unfolding flush_ledto
flush_on m (Done device.Through) at = tt
flush_on m ask at = apart m Flushes at tt

serve_on : (m : MaintainState) (ask : Ask DeviceAnswer) → ServesAbove m.begin.0 m.serving → ReadsAbove (serve_ledto m ask)
unfolding serve_ledto
serve_on m (Done device.Through) above = tt
serve_on m ask above = in_any m m.step above

shift_on : (m : MaintainState) (ask : Ask ShiftAnswer) → m.step ≡ Shifts → ReadsAbove (shift_ledto m ask)
unfolding shift_ledto
shift_on m (Done (shift.Through its)) at = tt
shift_on m (Done (shift.NoSlot its)) at = tt
shift_on m (Done (shift.Spent its)) at = tt
shift_on m ask at = apart m Shifts at tt

begun_on : (shape : Shape) (m : MaintainState) → ReadsAbove (serve_begun shape m)
begun_on shape m = serve_on (record m { serving = mailbox_from shape.sessions 0; step = Serves }) (serve_ask (mailbox_from shape.sessions 0)) (mailbox_above m.begin.0 shape.sessions 0)

turn_on : (shape : Shape) (m : MaintainState) (ask : Ask MoveAnswer) → m.step ≡ Turns → ReadsAbove (turn_ledto shape m ask)
unfolding turn_ledto
turn_on shape m (Done moved.Through) at = begun_on shape m
turn_on shape m (Done moved.NoSlot) at = begun_on shape (record m { is_drain_full = true })
turn_on shape m (Done moved.Spent) at = tt
turn_on shape m ask at = apart m Turns at tt

next_on : (shape : Shape) (p : Places) (s : MaintainState) (step : Maintaining) (reply : ℕ) → s.step ≡ step → AboveAt s step → ReadsAbove (maintaining_next shape p s step reply)
unfolding maintaining_next
next_on shape p s Through reply at above = apart s Through at tt
next_on shape p s Spent reply at above = apart s Spent at tt
next_on shape p s Broken reply at above = apart s Broken at tt
next_on shape p s Scans reply at above = scan_on (record s { scanning = scan_next shape.sessions s.scanning reply }) (scan_ask (scan_next shape.sessions s.scanning reply)) at
next_on shape p s Claims reply at above = claim_on (record s { claiming = claim_next s.claiming reply }) (claim_ask (claim_next s.claiming reply)) at
next_on shape p s Flushes reply at above =
    let next = flush_next shape.page s.flushing reply in
    flush_on (record s { bytes = bytes_next s.flushing s.bytes reply; flushing = next }) (flush_ask p next) at
next_on shape p s Shifts reply at above = shift_on (record s { shift = shift_next shape s.shift reply }) (shift_next_ask shape s.shift reply) at
next_on shape p s Turns reply at above = turn_on shape (record s { turn = turn_next shape s.turn reply }) (turn_next_ask shape s.turn reply) at
next_on shape p s Serves reply at above =
    let next = serve_next shape.sessions s.begin.0 s.serving reply in
    serve_on (record s { serving = next }) (serve_ask next) (serve_above shape.sessions s.begin.0 s.serving reply above)

given_on : (s : MaintainState) (step : Maintaining) (action : Action) → s.step ≡ step → AboveAt s step → ReadsAbove (maintaining_given s step action)
unfolding maintaining_given
given_on s Claims action at above = claim_on (record s { claiming = claim_given s.claiming action }) (claim_ask (claim_given s.claiming action)) at
given_on s step action at above = apart s step at above

called_on : (shape : Shape) (p : Places) (s : MaintainState) (step : Maintaining) (done : Bool) (bytes : List ℕ) → s.step ≡ step → AboveAt s step → ReadsAbove (maintaining_called shape p s step done bytes)
unfolding maintaining_called
called_on shape p s Flushes true bytes at above =
    let next = flush_done shape.page s.flushing true in
    flush_on (record s { bytes = bytes_done s.flushing s.bytes; flushing = next }) (flush_told shape p next) at
called_on shape p s Flushes false bytes at above = tt
called_on shape p s Serves true bytes at above =
    let next = serve_read s.serving bytes in
    serve_on (record s { serving = next }) (serve_ask next) (read_above s.begin.0 s.serving bytes above)
called_on shape p s Serves false bytes at above = tt
called_on shape p s step done bytes at above = apart s step at above

-- by a reply, by an action and by a call of the device
pub maintain_next_above : (shape : Shape) (p : Places) (s : MaintainState) (reply : ℕ) → ReadsAbove s → ReadsAbove (maintain_next shape p s reply)
maintain_next_above shape p s reply above = next_on shape p s s.step reply refl above

pub maintain_given_above : (s : MaintainState) (action : Action) → ReadsAbove s → ReadsAbove (maintain_given s action)
maintain_given_above s action above = given_on s s.step action refl above

pub maintain_called_above : (shape : Shape) (p : Places) (s : MaintainState) (done : Bool) (bytes : List ℕ) → ReadsAbove s → ReadsAbove (maintain_called shape p s done bytes)
maintain_called_above shape p s done bytes above = called_on shape p s s.step done bytes refl above

pub stays_above : StaysAbove
unfolding maintain_happens
stays_above shape p s (Replies reply) above = maintain_next_above shape p s reply above
stays_above shape p s (Gets action) above = maintain_given_above s action above
stays_above shape p s (Calls done bytes) above = maintain_called_above shape p s done bytes above
