-- A whole step of a turn, and its call of the device.
use Rattle.std.proofs.Common.{◌≡◌, ℕ, List, refl, Bool, true, false}
use Rattle.std.specs.Prelude.{Some, slice_get}
use Rattle.fkv_base.specs.declared.shapes.Shape.{Shape}
use Rattle.fkv_plane.specs.declared.asks.Ask.{Ask}
use Rattle.fkv_plane.specs.declared.asks.Ask.TheVariants.{Done}
use Rattle.fkv_plane.specs.declared.places.Places.{Places}
use Rattle.fkv_plane.specs.Asked.{reply_to, words_after}
use Rattle.fkv_plane.specs.Passing.{passed, is_done}
use Rattle.fkv_epoch.specs.Claiming.{claim_ask}
use Rattle.fkv_epoch.specs.Scanning.{scan_ask}
use Rattle.fkv_log.specs.Shifting.{shift_ask}
use Rattle.fkv_log.specs.Turning.{turn_ask}
use Rattle.fkv_flush.specs.declared.answers.DeviceAnswer.{DeviceAnswer}
use Rattle.fkv_flush.specs.declared.answers.DeviceAnswer.TheVariants as device
use Rattle.fkv_flush.specs.Flushing.{flush_ask, flush_done, bytes_done}
use Rattle.fkv_flush.specs.Serving.{serve_ask, serve_read}
use Rattle.fkv_flush.specs.GuardSeen.{LastSeen}
use Rattle.fkv_flush.specs.GuardWorld.{Actor, GuardNow, GuardWorld}
use Rattle.fkv_flush.proofs.Shown.{Fits, IsSound}
use Rattle.fkv_maintain.specs.declared.maintaining.MaintainAnswer.TheVariants as answer
use Rattle.fkv_maintain.specs.declared.maintaining.Maintaining.{Maintaining}
use Rattle.fkv_maintain.specs.declared.maintaining.Maintaining.TheVariants as maintain
use Rattle.fkv_maintain.specs.Maintaining.{MaintainState, flush_told, device_asked, maintaining_ask, maintaining_called, maintain_ask, maintain_next, maintain_called}
use Rattle.law_world.specs.GuardKeeper.MaintainEvents.{maintain_events, maintain_called_events}
use Rattle.law_world.specs.GuardKeeper.MaintainShown.{maintaining_machine, maintaining_work, maintain_machine, maintain_work, IsUnderWay}
use Rattle.law_world.specs.GuardKeeper.Settled.{is_of_slot}
use Rattle.law_world.proofs.OfGuardKeeper.Claimed.{claimed_to}
use Rattle.law_world.proofs.OfGuardKeeper.Flushed.{flush_behind, flushed_to, flush_called_to}
use Rattle.law_world.specs.GuardKeeper.Followed.{likeness}
use Rattle.law_world.proofs.OfGuardKeeper.HandsOver.{maintain_lets_rest, maintain_takes_up}
use Rattle.law_world.proofs.OfGuardKeeper.PartLed.{passed_step}
use Rattle.law_world.proofs.OfGuardKeeper.Scanned.{scanned_to}
use Rattle.law_world.proofs.OfGuardKeeper.Served.{serve_behind, served_to, serve_called_to}
use Rattle.law_world.proofs.OfGuardKeeper.Shifted.{shifted_to}
use Rattle.law_world.proofs.OfGuardKeeper.Turned.{turned_to}
use Rattle.law_world.proofs.OfGuardKeeper.TurnLed.{TurnLed}

device_step : (P : ℕ → List ℕ → Type 0) (words : List ℕ) (ask : Ask DeviceAnswer) → P (reply_to words ask) (words_after words ask) → P (reply_to words (device_asked ask)) (words_after words (device_asked ask))
unfolding device_asked passed
device_step P words (Done device.Device) p = p
device_step P words (Done device.Through) p = p
device_step P words ask p = passed_step P words ask answer.Through p

-- a part's ask is that of the machine inside
maintained_at : (w : GuardWorld) (a : ℕ) (x : Actor) (seen : LastSeen) (s : MaintainState) (step : Maintaining) → IsSound w → slice_get w.now.actors a ≡ Some x
    → Fits (likeness seen (maintaining_machine s step) (maintaining_work s step)) x → IsUnderWay (maintaining_machine s step) (maintaining_work s step) → is_done (maintaining_ask w.now.shape w.now.places s step) ≡ false
    → maintain_takes_up s step (reply_to w.now.words (maintaining_ask w.now.shape w.now.places s step)) ≡ false
    → (let n : GuardNow = w.now in let here : MaintainState = record s { step = step } in let reply : ℕ = reply_to n.words (maintain_ask n.shape n.places here) in
    TurnLed n a (maintain_events a n.shape n.places here step reply) seen (maintain_next n.shape n.places here reply) (words_after n.words (maintain_ask n.shape n.places here)))
unfolding maintaining_ask
maintained_at w a x seen s maintain.Through sound got fits busy e plain = cc
maintained_at w a x seen s maintain.Spent sound got fits busy e plain = cc
maintained_at w a x seen s maintain.Broken sound got fits busy e plain = cc
maintained_at w a x seen s maintain.Scans sound got fits busy e plain =
    let n : GuardNow = w.now in let here : MaintainState = record s { step = maintain.Scans } in
    passed_step (λ reply words. TurnLed n a (maintain_events a n.shape n.places here maintain.Scans reply) seen (maintain_next n.shape n.places here reply) words) n.words (scan_ask s.scanning) answer.Through
    (scanned_to n a x seen s sound.fits.sessions got fits)
maintained_at w a x seen s maintain.Claims sound got fits busy e plain =
    let n : GuardNow = w.now in let here : MaintainState = record s { step = maintain.Claims } in
    passed_step (λ reply words. maintain_takes_up s maintain.Claims reply ≡ false → TurnLed n a (maintain_events a n.shape n.places here maintain.Claims reply) seen (maintain_next n.shape n.places here reply) words) n.words (claim_ask s.claiming)
    answer.Through (λ same. claimed_to n a x seen s got fits same) plain
maintained_at w a x seen s maintain.Flushes sound got fits busy e plain =
    let n : GuardNow = w.now in let here : MaintainState = record s { step = maintain.Flushes } in
    device_step (λ reply words. TurnLed n a (maintain_events a n.shape n.places here maintain.Flushes reply) seen (maintain_next n.shape n.places here reply) words) n.words (flush_ask n.places s.flushing)
    (flushed_to n a x seen s got fits busy)
maintained_at w a x seen s maintain.Shifts sound got fits busy e plain =
    let n : GuardNow = w.now in let here : MaintainState = record s { step = maintain.Shifts } in
    passed_step (λ reply words. TurnLed n a (maintain_events a n.shape n.places here maintain.Shifts reply) seen (maintain_next n.shape n.places here reply) words) n.words (shift_ask s.shift) answer.Through
    (shifted_to w a x seen s sound got fits busy)
maintained_at w a x seen s maintain.Turns sound got fits busy e plain =
    let n : GuardNow = w.now in let here : MaintainState = record s { step = maintain.Turns } in
    passed_step (λ reply words. TurnLed n a (maintain_events a n.shape n.places here maintain.Turns reply) seen (maintain_next n.shape n.places here reply) words) n.words (turn_ask n.shape s.turn) answer.Through
    (turned_to w a x seen s sound got fits busy)
maintained_at w a x seen s maintain.Serves sound got fits busy e plain =
    let n : GuardNow = w.now in let here : MaintainState = record s { step = maintain.Serves } in
    device_step (λ reply words. TurnLed n a (maintain_events a n.shape n.places here maintain.Serves reply) seen (maintain_next n.shape n.places here reply) words) n.words (serve_ask s.serving)
    (served_to n a x seen s got fits busy)

pub maintained_to : (w : GuardWorld) (a : ℕ) (x : Actor) (seen : LastSeen) (s : MaintainState) → IsSound w → slice_get w.now.actors a ≡ Some x
    → Fits (likeness seen (maintain_machine s) (maintain_work s)) x → IsUnderWay (maintain_machine s) (maintain_work s) → is_done (maintain_ask w.now.shape w.now.places s) ≡ false
    → maintain_takes_up s s.step (reply_to w.now.words (maintain_ask w.now.shape w.now.places s)) ≡ false
    → (let n : GuardNow = w.now in let reply : ℕ = reply_to n.words (maintain_ask n.shape n.places s) in
    TurnLed n a (maintain_events a n.shape n.places s s.step reply) seen (maintain_next n.shape n.places s reply) (words_after n.words (maintain_ask n.shape n.places s)))
maintained_to w a x seen s sound got fits busy e plain = maintained_at w a x seen s s.step sound got fits busy e plain

-- who passes on what a machine with no calls asks needs no device
no_device : {A X : Type 0} (ask : Ask A) → passed ask answer.Through ≡ Done answer.Device → X
unfolding passed
no_device (Done its) e = cc
no_device ask e = cc

its_device : (ask : Ask DeviceAnswer) → device_asked ask ≡ Done answer.Device → ask ≡ Done device.Device
unfolding device_asked passed
its_device (Done device.Device) e = refl
its_device (Done device.Through) e = cc
its_device ask e = cc

called_at : (n : GuardNow) (a : ℕ) (x : Actor) (seen : LastSeen) (s : MaintainState) (step : Maintaining) (done : Bool) (read : List ℕ) → slice_get n.actors a ≡ Some x
    → Fits (likeness seen (maintaining_machine s step) (maintaining_work s step)) x → maintaining_ask n.shape n.places s step ≡ Done answer.Device → maintain_lets_rest n.shape s step done ≡ false
    → (let here : MaintainState = record s { step = step } in
    TurnLed n a (maintain_called_events a n.shape n.places here step done read) seen (maintain_called n.shape n.places here done read) n.words)
unfolding maintaining_ask
called_at n a x seen s maintain.Through done read got fits e plain = cc
called_at n a x seen s maintain.Spent done read got fits e plain = cc
called_at n a x seen s maintain.Broken done read got fits e plain = cc
called_at n a x seen s maintain.Scans done read got fits e plain = no_device (scan_ask s.scanning) e
called_at n a x seen s maintain.Claims done read got fits e plain = no_device (claim_ask s.claiming) e
called_at n a x seen s maintain.Flushes done read got fits e plain = flush_called_to n a x seen s done read got fits (its_device (flush_ask n.places s.flushing) e) plain
called_at n a x seen s maintain.Shifts done read got fits e plain = no_device (shift_ask s.shift) e
called_at n a x seen s maintain.Turns done read got fits e plain = no_device (turn_ask n.shape s.turn) e
called_at n a x seen s maintain.Serves done read got fits e plain = serve_called_to n a x seen s done read got fits

pub called_to : (n : GuardNow) (a : ℕ) (x : Actor) (seen : LastSeen) (s : MaintainState) (done : Bool) (read : List ℕ) → slice_get n.actors a ≡ Some x
    → Fits (likeness seen (maintain_machine s) (maintain_work s)) x → maintain_ask n.shape n.places s ≡ Done answer.Device → maintain_lets_rest n.shape s s.step done ≡ false
    → TurnLed n a (maintain_called_events a n.shape n.places s s.step done read) seen (maintain_called n.shape n.places s done read) n.words
called_to n a x seen s done read got fits e plain = called_at n a x seen s s.step done read got fits e plain

-- behind a call of the device nothing is asked of a slot
called_slot_at : (shape : Shape) (p : Places) (s : MaintainState) (step : Maintaining) (done : Bool) (read : List ℕ) → maintaining_ask shape p s step ≡ Done answer.Device → is_of_slot (maintain_ask shape p (maintain_called shape p (record s { step = step }) done read)) ≡ false
unfolding maintaining_ask maintaining_called
called_slot_at shape p s maintain.Through done read e = cc
called_slot_at shape p s maintain.Spent done read e = cc
called_slot_at shape p s maintain.Broken done read e = cc
called_slot_at shape p s maintain.Scans done read e = no_device (scan_ask s.scanning) e
called_slot_at shape p s maintain.Claims done read e = no_device (claim_ask s.claiming) e
called_slot_at shape p s maintain.Flushes true read e = flush_behind shape p s (flush_done shape.page s.flushing true) (bytes_done s.flushing s.bytes) (flush_told shape p (flush_done shape.page s.flushing true))
called_slot_at shape p s maintain.Flushes false read e = refl
called_slot_at shape p s maintain.Shifts done read e = no_device (shift_ask s.shift) e
called_slot_at shape p s maintain.Turns done read e = no_device (turn_ask shape s.turn) e
called_slot_at shape p s maintain.Serves true read e = serve_behind shape p s (serve_read s.serving read) (serve_ask (serve_read s.serving read))
called_slot_at shape p s maintain.Serves false read e = refl

pub called_slot : (shape : Shape) (p : Places) (s : MaintainState) (done : Bool) (read : List ℕ) → maintain_ask shape p s ≡ Done answer.Device → is_of_slot (maintain_ask shape p (maintain_called shape p s done read)) ≡ false
called_slot shape p s done read e = called_slot_at shape p s s.step done read e
