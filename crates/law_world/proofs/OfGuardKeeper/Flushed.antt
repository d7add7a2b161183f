-- A step of a turn's flush, and its call of the device.
use Rattle.std.proofs.Common.{◌≡◌, ℕ, List, [], ◌∷◌, refl, ap, sym, subst, ◌∙◌, Bool, true, false}
use Rattle.std.specs.Prelude.{if◌then◌else◌, Some, None, slice_get}
use Rattle.fkv_base.specs.declared.shapes.Shape.{Shape}
use Rattle.fkv_plane.specs.declared.asks.Ask.{Ask}
use Rattle.fkv_plane.specs.declared.asks.Ask.TheVariants.{Done}
use Rattle.fkv_plane.specs.declared.places.Places.{Places}
use Rattle.fkv_plane.specs.Asked.{reply_to, words_after}
use Rattle.fkv_plane.specs.Passing.{passed}
use Rattle.fkv_epoch.specs.EpochWorld.{is_at_rest}
use Rattle.fkv_log.specs.Shifting.{shift_begun, shifting_ask}
use Rattle.fkv_flush.specs.declared.answers.DeviceAnswer.{DeviceAnswer}
use Rattle.fkv_flush.specs.declared.answers.DeviceAnswer.TheVariants as device
use Rattle.fkv_flush.specs.declared.flushing.Flushing.{Flushing}
use Rattle.fkv_flush.specs.declared.flushing.Flushing.TheVariants as flush
use Rattle.fkv_flush.specs.Flushing.{flush_ask, flush_next, flush_done, bytes_next, bytes_done}
use Rattle.fkv_flush.specs.GuardSeen.{LastSeen}
use Rattle.fkv_flush.specs.GuardWorld.{Actor, Flushes, Shifts, GuardNow, GuardEvent, Moves, Calls, ToShift, near, put_near, is_idle}
use Rattle.fkv_flush.proofs.Shown.{runs_now, moves_work, calls, Fits}
use Rattle.fkv_maintain.specs.declared.maintaining.Maintaining.TheVariants as maintain
use Rattle.fkv_maintain.specs.Maintaining.{MaintainState, maintaining_ask, maintaining_next, maintaining_called, maintain_ask, maintain_next, maintain_called, flush_told, flush_ledto}
use Rattle.law_world.specs.GuardKeeper.MaintainEvents.{flush_events, shifter, maintain_events, maintain_called_events}
use Rattle.law_world.specs.GuardKeeper.MaintainShown.{maintain_machine, maintain_work}
use Rattle.law_world.specs.GuardKeeper.Settled.{is_of_slot}
use Rattle.law_world.specs.GuardKeeper.Followed.{likeness}
use Rattle.law_world.proofs.OfGuardKeeper.HandsOver.{maintain_lets_rest}
use Rattle.law_world.proofs.OfGuardKeeper.Led.{Led, then_begins}
use Rattle.law_world.proofs.OfGuardKeeper.TurnLed.{TurnLed, slotless_led, device_slot}

-- a machine with calls of the device is through
abbrev pub is_through : Ask DeviceAnswer → Bool
is_through (Done device.Through) = true
is_through ask = false

flush_busy : (p : Places) (step : Flushing) (bytes : List ℕ) → is_through (flush_ask p step) ≡ false → is_idle (Flushes step bytes) ≡ false
unfolding flush_ask
flush_busy p flush.AtRest bytes e = cc
flush_busy p step bytes e = refl

pub flush_ended : (p : Places) (step : Flushing) (bytes : List ℕ) → is_through (flush_ask p step) ≡ true → is_idle (Flushes step bytes) ≡ true
unfolding flush_ask
flush_ended p flush.AtRest bytes e = refl
flush_ended p step bytes e = cc

pub flush_slot : (p : Places) (step : Flushing) → is_of_slot (flush_ask p step) ≡ false
unfolding flush_ask
flush_slot p flush.AtRest = refl
flush_slot p flush.LoadsFlushed = refl
flush_slot p (flush.LoadsEnd flushed) = refl
flush_slot p (flush.LoadsWord part addr word) = refl
flush_slot p (flush.WritesPart part) = refl
flush_slot p (flush.Syncs end) = refl
flush_slot p (flush.RaisesFlushed end) = refl

-- a flush that has come to a step, with these bytes in hand
abbrev pub flush_at : MaintainState → Flushing → List ℕ → MaintainState
flush_at s next bytes = record s { bytes = bytes; flushing = next; step = maintain.Flushes }

flush_goes : (n : GuardNow) (a : ℕ) (x : Actor) (seen : LastSeen) (s : MaintainState) (made : GuardEvent) (next : Flushing) (bytes words : List ℕ) (ask : Ask DeviceAnswer) → flush_ask n.places next ≡ ask
    → slice_get n.actors a ≡ Some x → is_at_rest x.machine ≡ true → x.seen ≡ seen → x.undecided ≡ None
    → runs_now n (made ∷ []) ≡ put_near n a (near words n.actions (record x { work = Flushes next bytes }))
    → Led n a (flush_events a made ask) seen (maintain_machine (flush_ledto (flush_at s next bytes) ask)) (maintain_work (flush_ledto (flush_at s next bytes) ask)) words n.actions
unfolding flush_ledto
flush_goes n a x seen s made next bytes words (Done device.Through) e got rests same none led = record {
  follows = record {
    actor = record x { work = Shifts shift_begun };
    same = then_begins n a x (record x { work = Flushes next bytes }) (made ∷ []) words n.actions ToShift got led rests (flush_ended n.places next bytes (ap is_through e)) refl;
    fits = record { machine = rests; work = refl; seen = same; undecided = none };
  };
  busy = refl;
}
flush_goes n a x seen s made next bytes words ask e got rests same none led = record {
  follows = record { actor = record x { work = Flushes next bytes }; same = led; fits = record { machine = rests; work = refl; seen = same; undecided = none } };
  busy = flush_busy n.places next bytes (ap is_through e);
}

pub flush_behind : (shape : Shape) (p : Places) (s : MaintainState) (next : Flushing) (bytes : List ℕ) (ask : Ask DeviceAnswer) → is_of_slot (maintain_ask shape p (flush_ledto (flush_at s next bytes) ask)) ≡ false
unfolding flush_ledto maintaining_ask shifting_ask passed
flush_behind shape p s next bytes (Done device.Through) = refl
flush_behind shape p s next bytes ask = device_slot (flush_ask p next) ∙ flush_slot p next

flushes_on : (n : GuardNow) (a : ℕ) (x : Actor) (seen : LastSeen) (s : MaintainState) (made : GuardEvent) (next : Flushing) (bytes words : List ℕ) → slice_get n.actors a ≡ Some x
    → is_at_rest x.machine ≡ true → x.seen ≡ seen → x.undecided ≡ None → runs_now n (made ∷ []) ≡ put_near n a (near words n.actions (record x { work = Flushes next bytes }))
    → TurnLed n a (flush_events a made (flush_ask n.places next)) seen (flush_ledto (flush_at s next bytes) (flush_ask n.places next)) words
flushes_on n a x seen s made next bytes words got rests same none led =
    slotless_led n a (flush_events a made (flush_ask n.places next)) seen (flush_ledto (flush_at s next bytes) (flush_ask n.places next)) words (flush_behind n.shape n.places s next bytes (flush_ask n.places next))
    (flush_goes n a x seen s made next bytes words (flush_ask n.places next) refl got rests same none led)

pub flushed_to : (n : GuardNow) (a : ℕ) (x : Actor) (seen : LastSeen) (s : MaintainState) → slice_get n.actors a ≡ Some x → Fits (likeness seen None (Some (Flushes s.flushing s.bytes))) x
    → is_idle (Flushes s.flushing s.bytes) ≡ false
    → (let reply : ℕ = reply_to n.words (flush_ask n.places s.flushing) in let here : MaintainState = record s { step = maintain.Flushes } in
    TurnLed n a (maintain_events a n.shape n.places here maintain.Flushes reply) seen (maintain_next n.shape n.places here reply) (words_after n.words (flush_ask n.places s.flushing)))
unfolding maintaining_next maintain_events
flushed_to n a x seen s got fits busy =
    let reply : ℕ = reply_to n.words (flush_ask n.places s.flushing) in
    flushes_on n a x seen s (Moves a) (flush_next n.shape.page s.flushing reply) (bytes_next s.flushing s.bytes reply) (words_after n.words (flush_ask n.places s.flushing)) got fits.machine fits.seen fits.undecided
    (moves_work n a x got (Flushes s.flushing s.bytes) fits.work busy)

-- a flush that fails is through, where it makes its call
flush_failed : (p : Places) (page : ℕ) (step : Flushing) (bytes : List ℕ) → flush_ask p step ≡ Done device.Device → is_idle (Flushes (flush_done page step false) bytes) ≡ true
unfolding flush_ask flush_done
flush_failed p page (flush.WritesPart part) bytes e = refl
flush_failed p page (flush.Syncs end) bytes e = refl
flush_failed p page step bytes e = cc

-- a flush that is through rests nowhere
same_shifter : (p : Places) (a : ℕ) (step : Flushing) (made : GuardEvent) → flush_events (shifter a step) made (flush_ask p step) ≡ flush_events a made (flush_ask p step)
unfolding flush_ask
same_shifter p a flush.AtRest made = refl
same_shifter p a step made = refl

-- where the call of the device leads
pub flush_called_to : (n : GuardNow) (a : ℕ) (x : Actor) (seen : LastSeen) (s : MaintainState) (done : Bool) (read : List ℕ) → slice_get n.actors a ≡ Some x
    → Fits (likeness seen None (Some (Flushes s.flushing s.bytes))) x → flush_ask n.places s.flushing ≡ Done device.Device
    → maintain_lets_rest n.shape s maintain.Flushes done ≡ false
    → (let here : MaintainState = record s { step = maintain.Flushes } in
    TurnLed n a (maintain_called_events a n.shape n.places here maintain.Flushes done read) seen (maintain_called n.shape n.places here done read) n.words)
unfolding maintaining_called maintain_called_events maintaining_ask
flush_called_to n a x seen s true read got fits its_call plain =
    let next : Flushing = flush_done n.shape.page s.flushing true in
    let bytes : List ℕ = bytes_done s.flushing s.bytes in
    let told : flush_told n.shape n.places next ≡ flush_ask n.places next = ap (λ (b : Bool). if b then Done device.Through else flush_ask n.places next) plain in
    subst (λ (ask : Ask DeviceAnswer). TurnLed n a (flush_events (shifter a next) (Calls a true) ask) seen (flush_ledto (flush_at s next bytes) ask) n.words) (sym told)
    (subst (λ (events : List GuardEvent). TurnLed n a events seen (flush_ledto (flush_at s next bytes) (flush_ask n.places next)) n.words) (sym (same_shifter n.places a next (Calls a true)))
    (flushes_on n a x seen s (Calls a true) next bytes n.words got fits.machine fits.seen fits.undecided
    (calls n a x got s.flushing s.bytes true fits.work)))
flush_called_to n a x seen s false read got fits its_call plain = record {
  follows = record {
    actor = record x { work = Flushes (flush_done n.shape.page s.flushing false) (bytes_done s.flushing s.bytes) };
    same = calls n a x got s.flushing s.bytes false fits.work;
    fits = record { machine = fits.machine; work = flush_failed n.places n.shape.page s.flushing (bytes_done s.flushing s.bytes) its_call; seen = fits.seen; undecided = fits.undecided };
  };
  busy = tt;
}
