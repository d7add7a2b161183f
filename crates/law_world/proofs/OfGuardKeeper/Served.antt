-- A step for the mailboxes, and the read of the device.
use Rattle.std.proofs.Common.{◌≡◌, ℕ, List, [], ◌∷◌, refl, ap, ◌∙◌, Bool, true, false}
use Rattle.std.specs.Prelude.{Some, None, slice_get}
use Rattle.fkv_base.specs.declared.shapes.Shape.{Shape}
use Rattle.fkv_plane.specs.declared.asks.Ask.{Ask}
use Rattle.fkv_plane.specs.declared.asks.Ask.TheVariants.{Done}
use Rattle.fkv_plane.specs.declared.places.Places.{Places}
use Rattle.fkv_plane.specs.Asked.{reply_to, words_after}
use Rattle.fkv_epoch.specs.EpochWorld.{is_at_rest}
use Rattle.fkv_flush.specs.declared.answers.DeviceAnswer.{DeviceAnswer}
use Rattle.fkv_flush.specs.declared.answers.DeviceAnswer.TheVariants as device
use Rattle.fkv_flush.specs.declared.serving.Serving.{Serving}
use Rattle.fkv_flush.specs.declared.serving.Serving.TheVariants as serve
use Rattle.fkv_flush.specs.Serving.{serve_ask, serve_next, serve_read}
use Rattle.fkv_flush.specs.GuardSeen.{LastSeen}
use Rattle.fkv_flush.specs.GuardWorld.{Actor, Serves, GuardNow, GuardEvent, Moves, Reads, near, put_near, is_idle}
use Rattle.fkv_flush.proofs.Shown.{runs_now, moves_work, reads, Fits}
use Rattle.fkv_maintain.specs.declared.maintaining.Maintaining.TheVariants as maintain
use Rattle.fkv_maintain.specs.Maintaining.{MaintainState, maintaining_ask, maintaining_next, maintaining_called, maintain_ask, maintain_next, maintain_called, serve_ledto}
use Rattle.law_world.specs.GuardKeeper.MaintainEvents.{maintain_events, maintain_called_events}
use Rattle.law_world.specs.GuardKeeper.MaintainShown.{maintain_machine, maintain_work}
use Rattle.law_world.specs.GuardKeeper.Settled.{is_of_slot}
use Rattle.law_world.specs.GuardKeeper.Followed.{likeness}
use Rattle.law_world.proofs.OfGuardKeeper.Led.{Led}
use Rattle.law_world.proofs.OfGuardKeeper.TurnLed.{TurnLed, slotless_led, device_slot}
use Rattle.law_world.proofs.OfGuardKeeper.Flushed.{is_through}

serve_busy : (begin : ℕ) (step : Serving) → is_through (serve_ask step) ≡ false → is_idle (Serves begin step) ≡ false
unfolding serve_ask
serve_busy begin serve.AtRest e = cc
serve_busy begin step e = refl

pub serve_ended : (begin : ℕ) (step : Serving) → is_through (serve_ask step) ≡ true → is_idle (Serves begin step) ≡ true
unfolding serve_ask
serve_ended begin serve.AtRest e = refl
serve_ended begin step e = cc

pub serve_slot : (step : Serving) → is_of_slot (serve_ask step) ≡ false
unfolding serve_ask
serve_slot serve.AtRest = refl
serve_slot (serve.LoadsState session) = refl
serve_slot (serve.LoadsAddress session) = refl
serve_slot (serve.Reads session addr) = refl
serve_slot (serve.StoresHeader session mail) = refl
serve_slot (serve.StoresKey session mail) = refl
serve_slot (serve.StoresValue session mail) = refl
serve_slot (serve.StoresReady session) = refl

-- the mailboxes' machine has come to a step
abbrev pub serve_at : MaintainState → Serving → MaintainState
serve_at s next = record s { serving = next; step = maintain.Serves }

pub serve_goes : (n : GuardNow) (a : ℕ) (x : Actor) (seen : LastSeen) (s : MaintainState) (events : List GuardEvent) (next : Serving) (words : List ℕ) (ask : Ask DeviceAnswer) → serve_ask next ≡ ask
    → is_at_rest x.machine ≡ true → x.seen ≡ seen → x.undecided ≡ None → runs_now n events ≡ put_near n a (near words n.actions (record x { work = Serves s.begin.0 next }))
    → Led n a events seen (maintain_machine (serve_ledto (serve_at s next) ask)) (maintain_work (serve_ledto (serve_at s next) ask)) words n.actions
unfolding serve_ledto
serve_goes n a x seen s events next words (Done device.Through) e rests same none led = record {
  follows = record { actor = record x { work = Serves s.begin.0 next }; same = led; fits = record { machine = rests; work = serve_ended s.begin.0 next (ap is_through e); seen = same; undecided = none } };
  busy = tt;
}
serve_goes n a x seen s events next words ask e rests same none led = record {
  follows = record { actor = record x { work = Serves s.begin.0 next }; same = led; fits = record { machine = rests; work = refl; seen = same; undecided = none } };
  busy = serve_busy s.begin.0 next (ap is_through e);
}

pub serve_behind : (shape : Shape) (p : Places) (s : MaintainState) (next : Serving) (ask : Ask DeviceAnswer) → is_of_slot (maintain_ask shape p (serve_ledto (serve_at s next) ask)) ≡ false
unfolding serve_ledto maintaining_ask
serve_behind shape p s next (Done device.Through) = refl
serve_behind shape p s next ask = device_slot (serve_ask next) ∙ serve_slot next

pub serves_on : (n : GuardNow) (a : ℕ) (x : Actor) (seen : LastSeen) (s : MaintainState) (events : List GuardEvent) (next : Serving) (words : List ℕ) → is_at_rest x.machine ≡ true → x.seen ≡ seen → x.undecided ≡ None
    → runs_now n events ≡ put_near n a (near words n.actions (record x { work = Serves s.begin.0 next }))
    → TurnLed n a events seen (serve_ledto (serve_at s next) (serve_ask next)) words
serves_on n a x seen s events next words rests same none led =
    slotless_led n a events seen (serve_ledto (serve_at s next) (serve_ask next)) words (serve_behind n.shape n.places s next (serve_ask next))
    (serve_goes n a x seen s events next words (serve_ask next) refl rests same none led)

pub served_to : (n : GuardNow) (a : ℕ) (x : Actor) (seen : LastSeen) (s : MaintainState) → slice_get n.actors a ≡ Some x → Fits (likeness seen None (Some (Serves s.begin.0 s.serving))) x → is_idle (Serves s.begin.0 s.serving) ≡ false
    → (let reply : ℕ = reply_to n.words (serve_ask s.serving) in let here : MaintainState = record s { step = maintain.Serves } in
    TurnLed n a (maintain_events a n.shape n.places here maintain.Serves reply) seen (maintain_next n.shape n.places here reply) (words_after n.words (serve_ask s.serving)))
unfolding maintaining_next maintain_events
served_to n a x seen s got fits busy =
    serves_on n a x seen s (Moves a ∷ []) (serve_next n.shape.sessions s.begin.0 s.serving (reply_to n.words (serve_ask s.serving))) (words_after n.words (serve_ask s.serving)) fits.machine fits.seen fits.undecided
    (moves_work n a x got (Serves s.begin.0 s.serving) fits.work busy)

-- where the read leads
pub serve_called_to : (n : GuardNow) (a : ℕ) (x : Actor) (seen : LastSeen) (s : MaintainState) (done : Bool) (read : List ℕ) → slice_get n.actors a ≡ Some x → Fits (likeness seen None (Some (Serves s.begin.0 s.serving))) x
    → (let here : MaintainState = record s { step = maintain.Serves } in
    TurnLed n a (maintain_called_events a n.shape n.places here maintain.Serves done read) seen (maintain_called n.shape n.places here done read) n.words)
unfolding maintaining_called maintain_called_events maintaining_ask
serve_called_to n a x seen s true read got fits =
    serves_on n a x seen s (Reads a (Some read) ∷ []) (serve_read s.serving read) n.words fits.machine fits.seen fits.undecided (reads n a x got s.begin.0 s.serving (Some read) fits.work)
serve_called_to n a x seen s false read got fits = record {
  follows = record {
    actor = record x { work = Serves s.begin.0 serve.AtRest };
    same = reads n a x got s.begin.0 s.serving None fits.work;
    fits = record { machine = fits.machine; work = refl; seen = fits.seen; undecided = fits.undecided };
  };
  busy = tt;
}
