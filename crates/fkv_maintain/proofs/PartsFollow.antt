-- A part is left only at its end, and the next one follows.
use Rattle.std.proofs.Common.{◌≡◌, ℕ, zero, suc, ◌∙◌, ◌⊎◌, ◌<◌, arith, inl, inr, List, refl, ap, sym, Bool, true, false}
use Rattle.std.proofs.lemmas.Bool.{lt-ltb}
use Rattle.std.specs.Prelude.{not, ◌&&◌, if◌then◌else◌}
use Rattle.fkv_base.specs.Limits.{is_specified}
use Rattle.fkv_base.specs.declared.shapes.Shape.{Shape}
use Rattle.fkv_plane.specs.declared.actions.Action.{Action}
use Rattle.fkv_plane.specs.declared.asks.Ask.{Ask}
use Rattle.fkv_plane.specs.declared.asks.Ask.TheVariants.{Done}
use Rattle.fkv_plane.specs.declared.places.Places.{Places}
use Rattle.fkv_plane.specs.Passing.{is_done}
use Rattle.fkv_epoch.specs.Scanning.{scan_ask, scan_next}
use Rattle.fkv_epoch.specs.declared.claiming.Claiming.{Claiming}
use Rattle.fkv_epoch.specs.Claiming.{claim_ask, claim_next, claim_given}
use Rattle.fkv_log.specs.declared.moving.MoveAnswer.{MoveAnswer}
use Rattle.fkv_log.specs.declared.moving.MoveAnswer.TheVariants as moved
use Rattle.fkv_log.specs.declared.shifting.ShiftAnswer.{ShiftAnswer}
use Rattle.fkv_log.specs.declared.shifting.ShiftAnswer.TheVariants as shift
use Rattle.fkv_log.specs.Shifting.{shift_next, shift_next_ask}
use Rattle.fkv_log.specs.Turning.{turn_next, turn_next_ask}
use Rattle.fkv_flush.specs.declared.answers.DeviceAnswer.{DeviceAnswer}
use Rattle.fkv_flush.specs.declared.answers.DeviceAnswer.TheVariants as device
use Rattle.fkv_flush.specs.declared.flushing.Flushing.{Flushing}
use Rattle.fkv_flush.specs.declared.serving.Serving.{Serving}
use Rattle.fkv_flush.specs.declared.serving.Serving.TheVariants as serving
use Rattle.fkv_flush.specs.Flushing.{flush_ask, flush_next, flush_done, bytes_next, bytes_done}
use Rattle.fkv_flush.specs.Serving.{serve_ask, serve_next, serve_read, mailbox_from}
use Rattle.fkv_maintain.specs.declared.maintaining.Maintaining.{Maintaining}
use Rattle.fkv_maintain.specs.declared.maintaining.Maintaining.TheVariants.{Through, Spent, Broken, Scans, Claims, Flushes, Shifts, Turns, Serves}
use Rattle.fkv_maintain.specs.Maintaining.{MaintainState, is_sync_due, flush_told, scan_ledto, claim_ledto, flush_ledto, shift_ledto, turn_ledto, serve_ledto, serve_begun, maintaining_next, maintaining_given, maintaining_called}
use Rattle.fkv_maintain.specs.MaintainRun.{MaintainEvent, Replies, Gets, Calls, maintain_happens}
use Rattle.fkv_maintain.specs.Parts.{IsClaimBegun, IsFlushBegun, IsShiftBegun, IsPageBegun, IsServeBegun, IsServed, IsShiftSpent, IsPageSpent, IsBreak, MayFollow, FollowsInOrder}

scan_led : (m : MaintainState) (ask : Ask (Unit {0})) → m.step ≡ Scans → scan_ask m.scanning ≡ ask → ((scan_ledto m ask).step ≡ Scans) ⊎ IsClaimBegun (scan_ledto m ask)
unfolding scan_ledto
scan_led m (Done its) at e = inr (record { comes = refl; scanned = ap is_done e; first = refl })
scan_led m ask at e = inl at

claim_led : (s : MaintainState) (next : Claiming) (ask : Ask (Unit {0})) → s.step ≡ Claims → claim_ask next ≡ ask
    → ((claim_ledto (record s { claiming = next }) ask).step ≡ Claims) ⊎ IsFlushBegun s (claim_ledto (record s { claiming = next }) ask)
unfolding claim_ledto
claim_led s next (Done its) at e = inr (record { comes = refl; claimed = ap is_done e; first = refl; in_hand = refl })
claim_led s next ask at e = inl at

-- a flush that is through asks for nothing more, whether or not it may rest
either_through : (b : Bool) (ask : Ask DeviceAnswer) → ask ≡ Done device.Through → (if b then Done device.Through else ask) ≡ Done device.Through
either_through true ask e = refl
either_through false ask e = e

through_told : (shape : Shape) (p : Places) (step : Flushing) → flush_ask p step ≡ Done device.Through → flush_told shape p step ≡ Done device.Through
through_told shape p step e = either_through (not (is_specified shape.class) && is_sync_due step) (flush_ask p step) e

flush_led : (shape : Shape) (p : Places) (event : MaintainEvent) (m : MaintainState) (ask : Ask DeviceAnswer) → m.step ≡ Flushes → (ask ≡ Done device.Through → flush_told shape p m.flushing ≡ Done device.Through)
    → ((flush_ledto m ask).step ≡ Flushes) ⊎ (IsShiftBegun shape p (flush_ledto m ask) ⊎ IsBreak event (flush_ledto m ask))
unfolding flush_ledto
flush_led shape p event m (Done device.Through) at told = inr (inl (record { comes = refl; flushed = told refl; first = refl }))
flush_led shape p event m ask at told = inl at

shift_led : (shape : Shape) (s : MaintainState) (reply : ℕ) (m : MaintainState) (ask : Ask ShiftAnswer) → m.step ≡ Shifts → shift_next_ask shape s.shift reply ≡ ask
    → ((shift_ledto m ask).step ≡ Shifts) ⊎ (IsPageBegun shape s (Replies reply) (shift_ledto m ask) ⊎ IsShiftSpent shape s (Replies reply) (shift_ledto m ask))
unfolding shift_ledto
shift_led shape s reply m (Done (shift.Through its)) at e = inr (inl (record { reply = reply; tail = its; replied = refl; shifted = inl e; comes = refl; first = refl }))
shift_led shape s reply m (Done (shift.NoSlot its)) at e = inr (inl (record { reply = reply; tail = its; replied = refl; shifted = inr e; comes = refl; first = refl }))
shift_led shape s reply m (Done (shift.Spent its)) at e = inr (inr (record { reply = reply; tail = its; replied = refl; spent = e; comes = refl }))
shift_led shape s reply m ask at e = inl at

first_loads : (sessions : ℕ) → 0 < sessions → mailbox_from sessions 0 ≡ serving.LoadsState 0
unfolding mailbox_from
first_loads sessions some = rw (lt-ltb 0 sessions some) refl

loads_some : serve_ask (serving.LoadsState 0) ≡ Done device.Through → ⊥
unfolding serve_ask
loads_some e = cc

-- where nothing is to be served there is no session
pub none_to_serve : (sessions : ℕ) → serve_ask (mailbox_from sessions 0) ≡ Done device.Through → sessions ≡ 0
unfolding mailbox_from
none_to_serve zero e = refl
none_to_serve (suc n) e = absurd (loads_some (sym (ap serve_ask (first_loads (suc n) (omega arith))) ∙ e))

serve_comes : (shape : Shape) (m : MaintainState) (ask : Ask DeviceAnswer) → m.step ≡ Serves → serve_ask (mailbox_from shape.sessions 0) ≡ ask
    → ((serve_ledto m ask).step ≡ Serves) ⊎ (((serve_ledto m ask).step ≡ Through) × (shape.sessions ≡ 0))
unfolding serve_ledto
serve_comes shape m (Done device.Through) at e = inr (refl, none_to_serve shape.sessions e)
serve_comes shape m ask at e = inl at

-- where there is a session, serving begins with the first one's mailbox
pub serve_begins : (shape : Shape) (s : MaintainState) → serve_begun shape s ≡ record s { serving = serving.LoadsState 0; step = Serves }
unfolding serve_ledto serve_ask
serve_begins shape s =
    ap (λ (first : Serving). serve_ledto (record s { serving = first; step = Serves }) (serve_ask first)) (first_loads shape.sessions shape.limits.some_session)

serve_keeps : (m : MaintainState) (ask : Ask DeviceAnswer) → (serve_ledto m ask).serving ≡ m.serving
unfolding serve_ledto
serve_keeps m (Done device.Through) = refl
serve_keeps m ask = refl

serve_first : (shape : Shape) (s : MaintainState) (reply : ℕ) (m : MaintainState) → (turn_next_ask shape s.turn reply ≡ Done moved.Through) ⊎ (turn_next_ask shape s.turn reply ≡ Done moved.NoSlot)
    → IsServeBegun shape s (Replies reply) (serve_begun shape m)
serve_first shape s reply m ended =
    let next : MaintainState = record m { serving = mailbox_from shape.sessions 0; step = Serves } in
    let ask = serve_ask (mailbox_from shape.sessions 0) in
    record { reply = reply; replied = refl; turned = ended; comes = serve_comes shape next ask refl refl; first = serve_keeps next ask }

turn_led : (shape : Shape) (s : MaintainState) (reply : ℕ) (m : MaintainState) (ask : Ask MoveAnswer) → m.step ≡ Turns → turn_next_ask shape s.turn reply ≡ ask
    → ((turn_ledto shape m ask).step ≡ Turns) ⊎ (IsServeBegun shape s (Replies reply) (turn_ledto shape m ask) ⊎ IsPageSpent shape s (Replies reply) (turn_ledto shape m ask))
unfolding turn_ledto
turn_led shape s reply m (Done moved.Through) at e = inr (inl (serve_first shape s reply m (inl e)))
turn_led shape s reply m (Done moved.NoSlot) at e = inr (inl (serve_first shape s reply (record m { is_drain_full = true }) (inr e)))
turn_led shape s reply m (Done moved.Spent) at e = inr (inr (record { reply = reply; replied = refl; spent = e; comes = refl }))
turn_led shape s reply m ask at e = inl at

serve_led : (event : MaintainEvent) (m : MaintainState) (ask : Ask DeviceAnswer) → m.step ≡ Serves → serve_ask m.serving ≡ ask
    → ((serve_ledto m ask).step ≡ Serves) ⊎ (IsServed (serve_ledto m ask) ⊎ IsBreak event (serve_ledto m ask))
unfolding serve_ledto
serve_led event m (Done device.Through) at e = inr (inl (record { comes = refl; served = e }))
serve_led event m ask at e = inl at

replied : (shape : Shape) (p : Places) (s : MaintainState) (step : Maintaining) (reply : ℕ) → s.step ≡ step → MayFollow shape p s step (Replies reply) (maintaining_next shape p s step reply)
unfolding maintaining_next
replied shape p s Through reply at = refl
replied shape p s Spent reply at = refl
replied shape p s Broken reply at = refl
replied shape p s Scans reply at = scan_led (record s { scanning = scan_next shape.sessions s.scanning reply }) (scan_ask (scan_next shape.sessions s.scanning reply)) at refl
replied shape p s Claims reply at = claim_led s (claim_next s.claiming reply) (claim_ask (claim_next s.claiming reply)) at refl
replied shape p s Flushes reply at =
    let next = flush_next shape.page s.flushing reply in
    flush_led shape p (Replies reply) (record s { bytes = bytes_next s.flushing s.bytes reply; flushing = next }) (flush_ask p next) at (through_told shape p next)
replied shape p s Shifts reply at = shift_led shape s reply (record s { shift = shift_next shape s.shift reply }) (shift_next_ask shape s.shift reply) at refl
replied shape p s Turns reply at = turn_led shape s reply (record s { turn = turn_next shape s.turn reply }) (turn_next_ask shape s.turn reply) at refl
replied shape p s Serves reply at =
    let next = serve_next shape.sessions s.begin.0 s.serving reply in
    serve_led (Replies reply) (record s { serving = next }) (serve_ask next) at refl

given : (shape : Shape) (p : Places) (s : MaintainState) (step : Maintaining) (action : Action) → s.step ≡ step → MayFollow shape p s step (Gets action) (maintaining_given s step action)
unfolding maintaining_given
given shape p s Through action at = refl
given shape p s Spent action at = refl
given shape p s Broken action at = refl
given shape p s Scans action at = inl at
given shape p s Claims action at = claim_led s (claim_given s.claiming action) (claim_ask (claim_given s.claiming action)) at refl
given shape p s Flushes action at = inl at
given shape p s Shifts action at = inl at
given shape p s Turns action at = inl at
given shape p s Serves action at = inl at

called : (shape : Shape) (p : Places) (s : MaintainState) (step : Maintaining) (done : Bool) (bytes : List ℕ) → s.step ≡ step → MayFollow shape p s step (Calls done bytes) (maintaining_called shape p s step done bytes)
unfolding maintaining_called
called shape p s Through done bytes at = refl
called shape p s Spent done bytes at = refl
called shape p s Broken done bytes at = refl
called shape p s Scans done bytes at = inl at
called shape p s Claims done bytes at = inl at
called shape p s Flushes true bytes at =
    let next = flush_done shape.page s.flushing true in
    flush_led shape p (Calls true bytes) (record s { bytes = bytes_done s.flushing s.bytes; flushing = next }) (flush_told shape p next) at (λ e. e)
called shape p s Flushes false bytes at = inr (inr (record { bytes = bytes; failed = refl; comes = refl }))
called shape p s Shifts done bytes at = inl at
called shape p s Turns done bytes at = inl at
called shape p s Serves true bytes at =
    let next = serve_read s.serving bytes in
    serve_led (Calls true bytes) (record s { serving = next }) (serve_ask next) at refl
called shape p s Serves false bytes at = inr (inr (record { bytes = bytes; failed = refl; comes = refl }))

pub follows_in_order : FollowsInOrder
unfolding maintain_happens
follows_in_order shape p s (Replies reply) = replied shape p s s.step reply refl
follows_in_order shape p s (Gets action) = given shape p s s.step action refl
follows_in_order shape p s (Calls done bytes) = called shape p s s.step done bytes refl
