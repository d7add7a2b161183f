-- The parts over a run: their order, whether one lacked a drain slot, and which call the device.
use Rattle.std.proofs.Common.{◌≡◌, ◌∙◌, ◌⊎◌, ◌<◌, arith, ℕ, inl, inr, List, [], ◌∷◌, refl, ap, Bool, true, false}
use Rattle.std.specs.Prelude.{◌||◌}
use Rattle.fkv_base.specs.declared.shapes.Shape.{Shape}
use Rattle.fkv_plane.specs.declared.actions.Action.{Action}
use Rattle.fkv_plane.specs.declared.asks.Ask.{Ask}
use Rattle.fkv_plane.specs.declared.asks.Ask.TheVariants.{Done}
use Rattle.fkv_plane.specs.declared.places.Places.{Places}
use Rattle.fkv_epoch.specs.Scanning.{scan_ask, scan_next}
use Rattle.fkv_epoch.specs.Claiming.{claim_ask, claim_next, claim_given}
use Rattle.fkv_log.specs.declared.moving.MoveAnswer.{MoveAnswer}
use Rattle.fkv_log.specs.declared.moving.MoveAnswer.TheVariants as moved
use Rattle.fkv_log.specs.declared.shifting.ShiftAnswer.{ShiftAnswer}
use Rattle.fkv_log.specs.declared.shifting.ShiftAnswer.TheVariants as shift
use Rattle.fkv_log.specs.Shifting.{shift_next, shift_next_ask}
use Rattle.fkv_log.specs.Turning.{turn_next, turn_next_ask}
use Rattle.fkv_flush.specs.declared.answers.DeviceAnswer.{DeviceAnswer}
use Rattle.fkv_flush.specs.declared.answers.DeviceAnswer.TheVariants as device
use Rattle.fkv_flush.specs.Flushing.{flush_ask, flush_next, flush_done, bytes_next, bytes_done}
use Rattle.fkv_flush.specs.Serving.{serve_ask, serve_next, serve_read, mailbox_from}
use Rattle.fkv_maintain.specs.declared.maintaining.Maintaining.{Maintaining}
use Rattle.fkv_maintain.specs.declared.maintaining.Maintaining.TheVariants.{Through, Spent, Broken, Scans, Claims, Flushes, Shifts, Turns, Serves}
use Rattle.fkv_maintain.specs.Maintaining.{MaintainState, maintain_serving, flush_told, scan_ledto, claim_ledto, flush_ledto, shift_ledto, turn_ledto, serve_ledto, maintaining_next, maintaining_given, maintaining_called, maintaining_made, maintaining_calls}
use Rattle.fkv_maintain.specs.MaintainRun.{MaintainEvent, Replies, Gets, Calls, maintain_happens, maintain_run, serving_run}
use Rattle.fkv_maintain.specs.Parts.{MayFollow, entered, parts_of, AreInOrder, is_shift_slotless, is_page_slotless, lacks_slot, has_lacked_slot, IsServing, ServesAlone, CallsInItsParts}
use Rattle.fkv_maintain.proofs.PartsFollow.{follows_in_order}

-- what follows is listed behind what was
one_more : (shape : Shape) (p : Places) (s : MaintainState) (step : Maintaining) (event : MaintainEvent) (next : MaintainState) (parts : List Maintaining)
    → s.step ≡ step → MayFollow shape p s step event next → AreInOrder shape step parts → AreInOrder shape next.step (entered step next.step parts)
one_more shape p s Through event next parts at same kept = rw (ap (λ (x : MaintainState). x.step) same ∙ at) kept
one_more shape p s Spent event next parts at same kept = rw (ap (λ (x : MaintainState). x.step) same ∙ at) kept
one_more shape p s Broken event next parts at same kept = rw (ap (λ (x : MaintainState). x.step) same ∙ at) kept
one_more shape p s Scans event next parts at (inl stays) kept = rw stays kept
one_more shape p s Scans event next parts at (inr its) kept = rw its.comes (ap (λ x. Claims ∷ x) kept)
one_more shape p s Claims event next parts at (inl stays) kept = rw stays kept
one_more shape p s Claims event next parts at (inr its) kept = rw its.comes (ap (λ x. Flushes ∷ x) kept)
one_more shape p s Flushes event next parts at (inl stays) kept = rw stays kept
one_more shape p s Flushes event next parts at (inr (inl its)) kept = rw its.comes (ap (λ x. Shifts ∷ x) kept)
one_more shape p s Flushes event next parts at (inr (inr its)) kept = rw its.comes (inl (ap (λ x. Broken ∷ x) kept))
one_more shape p s Shifts event next parts at (inl stays) kept = rw stays kept
one_more shape p s Shifts event next parts at (inr (inl its)) kept = rw its.comes (ap (λ x. Turns ∷ x) kept)
one_more shape p s Shifts event next parts at (inr (inr its)) kept = rw its.comes (inl (ap (λ x. Spent ∷ x) kept))
one_more shape p s Turns event next parts at (inl stays) kept = rw stays kept
one_more shape p s Turns event next parts at (inr (inl its)) kept = elim its.comes [
  | inl serves ↦ rw serves (ap (λ x. Serves ∷ x) kept)
  | inr none ↦ rw none.0 (inr (ap (λ x. Through ∷ x) kept, none.1))
]
one_more shape p s Turns event next parts at (inr (inr its)) kept = rw its.comes (inr (ap (λ x. Spent ∷ x) kept))
one_more shape p s Serves event next parts at (inl stays) kept = rw stays kept
one_more shape p s Serves event next parts at (inr (inl its)) kept = rw its.comes (inl (ap (λ x. Through ∷ x) kept))
one_more shape p s Serves event next parts at (inr (inr its)) kept = rw its.comes (inr (ap (λ x. Broken ∷ x) kept))

pub run_in_order : (shape : Shape) (p : Places) (s : MaintainState) (events : List MaintainEvent) → AreInOrder shape (maintain_run shape p s events).step (parts_of shape p s events)
unfolding maintain_run parts_of
run_in_order shape p s [] = refl
run_in_order shape p s (event ∷ before) =
    let m = maintain_run shape p s before in
    one_more shape p m m.step event (maintain_happens shape p m event) (parts_of shape p s before) refl (follows_in_order shape p m event) (run_in_order shape p s before)

scan_full : (m : MaintainState) (ask : Ask (Unit {0})) → (scan_ledto m ask).is_drain_full ≡ m.is_drain_full
unfolding scan_ledto
scan_full m (Done its) = refl
scan_full m ask = refl

claim_full : (m : MaintainState) (ask : Ask (Unit {0})) → (claim_ledto m ask).is_drain_full ≡ m.is_drain_full
unfolding claim_ledto
claim_full m (Done its) = refl
claim_full m ask = refl

flush_full : (m : MaintainState) (ask : Ask DeviceAnswer) → (flush_ledto m ask).is_drain_full ≡ m.is_drain_full
unfolding flush_ledto
flush_full m (Done device.Through) = refl
flush_full m ask = refl

serve_full : (m : MaintainState) (ask : Ask DeviceAnswer) → (serve_ledto m ask).is_drain_full ≡ m.is_drain_full
unfolding serve_ledto
serve_full m (Done device.Through) = refl
serve_full m ask = refl

shift_full : (m : MaintainState) (ask : Ask ShiftAnswer) → (shift_ledto m ask).is_drain_full ≡ (is_shift_slotless ask || m.is_drain_full)
unfolding shift_ledto
shift_full m (Done (shift.Through its)) = refl
shift_full m (Done (shift.NoSlot its)) = refl
shift_full m (Done (shift.Spent its)) = refl
shift_full m ask = refl

turn_full : (shape : Shape) (m : MaintainState) (ask : Ask MoveAnswer) → (turn_ledto shape m ask).is_drain_full ≡ (is_page_slotless ask || m.is_drain_full)
unfolding turn_ledto
turn_full shape m (Done moved.Through) = serve_full (record m { serving = mailbox_from shape.sessions 0; step = Serves }) (serve_ask (mailbox_from shape.sessions 0))
turn_full shape m (Done moved.NoSlot) = serve_full (record m { serving = mailbox_from shape.sessions 0; is_drain_full = true; step = Serves }) (serve_ask (mailbox_from shape.sessions 0))
turn_full shape m (Done moved.Spent) = refl
turn_full shape m ask = refl

replied_full : (shape : Shape) (p : Places) (s : MaintainState) (step : Maintaining) (reply : ℕ)
    → (maintaining_next shape p s step reply).is_drain_full ≡ (lacks_slot shape s step (Replies reply) || s.is_drain_full)
unfolding maintaining_next
replied_full shape p s Through reply = refl
replied_full shape p s Spent reply = refl
replied_full shape p s Broken reply = refl
replied_full shape p s Scans reply = scan_full (record s { scanning = scan_next shape.sessions s.scanning reply }) (scan_ask (scan_next shape.sessions s.scanning reply))
replied_full shape p s Claims reply = claim_full (record s { claiming = claim_next s.claiming reply }) (claim_ask (claim_next s.claiming reply))
replied_full shape p s Flushes reply =
    let next = flush_next shape.page s.flushing reply in
    flush_full (record s { bytes = bytes_next s.flushing s.bytes reply; flushing = next }) (flush_ask p next)
replied_full shape p s Shifts reply = shift_full (record s { shift = shift_next shape s.shift reply }) (shift_next_ask shape s.shift reply)
replied_full shape p s Turns reply = turn_full shape (record s { turn = turn_next shape s.turn reply }) (turn_next_ask shape s.turn reply)
replied_full shape p s Serves reply =
    let next = serve_next shape.sessions s.begin.0 s.serving reply in
    serve_full (record s { serving = next }) (serve_ask next)

given_full : (shape : Shape) (s : MaintainState) (step : Maintaining) (action : Action) → (maintaining_given s step action).is_drain_full ≡ (lacks_slot shape s step (Gets action) || s.is_drain_full)
unfolding maintaining_given
given_full shape s Claims action = claim_full (record s { claiming = claim_given s.claiming action }) (claim_ask (claim_given s.claiming action))
given_full shape s step action = refl

called_full : (shape : Shape) (p : Places) (s : MaintainState) (step : Maintaining) (done : Bool) (bytes : List ℕ)
    → (maintaining_called shape p s step done bytes).is_drain_full ≡ (lacks_slot shape s step (Calls done bytes) || s.is_drain_full)
unfolding maintaining_called
called_full shape p s Flushes true bytes =
    let next = flush_done shape.page s.flushing true in
    flush_full (record s { bytes = bytes_done s.flushing s.bytes; flushing = next }) (flush_told shape p next)
called_full shape p s Flushes false bytes = refl
called_full shape p s Serves true bytes =
    let next = serve_read s.serving bytes in
    serve_full (record s { serving = next }) (serve_ask next)
called_full shape p s Serves false bytes = refl
called_full shape p s step done bytes = refl

happens_full : (shape : Shape) (p : Places) (s : MaintainState) (event : MaintainEvent) → (maintain_happens shape p s event).is_drain_full ≡ (lacks_slot shape s s.step event || s.is_drain_full)
unfolding maintain_happens
happens_full shape p s (Replies reply) = replied_full shape p s s.step reply
happens_full shape p s (Gets action) = given_full shape s s.step action
happens_full shape p s (Calls done bytes) = called_full shape p s s.step done bytes

pub run_full : (shape : Shape) (p : Places) (s : MaintainState) (events : List MaintainEvent) → (maintain_run shape p s events).is_drain_full ≡ has_lacked_slot shape p s events
unfolding maintain_run has_lacked_slot
run_full shape p s [] = refl
run_full shape p s (event ∷ before) =
    let m = maintain_run shape p s before in
    happens_full shape p m event ∙ ap (λ b. lacks_slot shape m m.step event || b) (run_full shape p s before)

made_in : (p : Places) (s : MaintainState) (step : Maintaining) → 0 < maintaining_made p s step → (step ≡ Flushes) ⊎ (step ≡ Serves)
unfolding maintaining_made
made_in p s Flushes some = inl refl
made_in p s Serves some = inr refl
made_in p s step some = absurd (omega (arith, some))

writes_in : (shape : Shape) (s : MaintainState) (step : Maintaining) (done : Bool) → (maintaining_calls shape s step done ≡ [] → ⊥) → step ≡ Flushes
unfolding maintaining_calls
writes_in shape s Flushes done some = refl
writes_in shape s step done some = absurd (some refl)

pub calls_in_parts : (shape : Shape) (p : Places) (s : MaintainState) → CallsInItsParts shape p s
calls_in_parts shape p s = record { made = made_in p s s.step; writes = writes_in shape s s.step }

-- a turn that only serves stays at that, to its end
serving_stays : (shape : Shape) (p : Places) (s : MaintainState) (step : Maintaining) (event : MaintainEvent) (next : MaintainState)
    → s.step ≡ step → IsServing step → MayFollow shape p s step event next → IsServing next.step
serving_stays shape p s Serves event next at its (inl stays) = rw stays tt
serving_stays shape p s Serves event next at its (inr (inl served)) = rw served.comes tt
serving_stays shape p s Serves event next at its (inr (inr breaks)) = rw breaks.comes tt
serving_stays shape p s Through event next at its same = rw (ap (λ (x : MaintainState). x.step) same ∙ at) tt
serving_stays shape p s Broken event next at its same = rw (ap (λ (x : MaintainState). x.step) same ∙ at) tt
serving_stays shape p s step event next at its same = absurd its

serving_lacks_none : (shape : Shape) (s : MaintainState) (step : Maintaining) (event : MaintainEvent) → IsServing step → lacks_slot shape s step event ≡ false
serving_lacks_none shape s Shifts event its = absurd its
serving_lacks_none shape s Turns event its = absurd its
serving_lacks_none shape s step event its = refl

serving_writes_none : (shape : Shape) (s : MaintainState) (step : Maintaining) (done : Bool) → IsServing step → maintaining_calls shape s step done ≡ []
unfolding maintaining_calls
serving_writes_none shape s Flushes done its = absurd its
serving_writes_none shape s step done its = refl

-- and each event leaves it there
pub serving_goes : (shape : Shape) (p : Places) (s : MaintainState) (event : MaintainEvent) → IsServing s.step → IsServing (maintain_happens shape p s event).step
serving_goes shape p s event its = serving_stays shape p s s.step event (maintain_happens shape p s event) refl its (follows_in_order shape p s event)

pub serves_alone : (shape : Shape) (p : Places) (s : MaintainState) (events : List MaintainEvent) → ServesAlone shape (serving_run shape p s events)
unfolding serving_run
serves_alone shape p s [] = record { part = tt; full = refl; reads = λ done. serving_writes_none shape (maintain_serving s) Serves done tt }
serves_alone shape p s (event ∷ before) =
    let m = serving_run shape p s before in
    let was = serves_alone shape p s before in
    let part = serving_goes shape p m event was.part in
    record {
      part = part;
      full = happens_full shape p m event ∙ (ap (λ b. b || m.is_drain_full) (serving_lacks_none shape m m.step event was.part) ∙ was.full);
      reads = λ done. serving_writes_none shape (maintain_happens shape p m event) (maintain_happens shape p m event).step done part;
    }
