-- A step of a turn's scan.
use Rattle.std.proofs.Common.{◌≡◌, ℕ, List, [], ◌∷◌, refl, ap, ◌∙◌, true, false}
use Rattle.std.specs.Prelude.{Some, None, slice_get}
use Rattle.fkv_base.specs.declared.shapes.Shape.{Shape}
use Rattle.fkv_plane.specs.declared.asks.Ask.{Ask}
use Rattle.fkv_plane.specs.declared.asks.Ask.TheVariants.{Done}
use Rattle.fkv_plane.specs.declared.places.Places.{Places}
use Rattle.fkv_plane.specs.Asked.{reply_to, words_after}
use Rattle.fkv_plane.specs.Passing.{passed, is_done}
use Rattle.fkv_epoch.specs.declared.claiming.Claiming.TheVariants as claim
use Rattle.fkv_epoch.specs.declared.scanning.Scanning.{Scanning}
use Rattle.fkv_epoch.specs.declared.scanning.Scanning.TheVariants as scan
use Rattle.fkv_epoch.specs.Claiming.{claim_ask}
use Rattle.fkv_epoch.specs.Scanning.{scan_ask, scan_next}
use Rattle.fkv_epoch.specs.EpochWorld.{Scans, Claims, ToClaim, is_at_rest}
use Rattle.fkv_flush.specs.GuardSeen.{LastSeen}
use Rattle.fkv_flush.specs.GuardWorld.{Actor, Rests, GuardNow, Moves, ToDo, near, put_near, is_idle}
use Rattle.fkv_flush.proofs.Shown.{runs_now, Fits}
use Rattle.fkv_maintain.specs.declared.maintaining.MaintainAnswer.TheVariants as answer
use Rattle.fkv_maintain.specs.declared.maintaining.Maintaining.TheVariants as maintain
use Rattle.fkv_maintain.specs.Maintaining.{MaintainState, maintaining_ask, maintaining_next, maintain_ask, maintain_next, scan_ledto}
use Rattle.law_world.specs.GuardKeeper.MaintainEvents.{scan_events, maintain_events}
use Rattle.law_world.specs.GuardKeeper.MaintainShown.{maintain_machine, maintain_work}
use Rattle.law_world.specs.GuardKeeper.Settled.{is_of_slot}
use Rattle.law_world.specs.GuardKeeper.Followed.{likeness}
use Rattle.law_world.proofs.OfGuardKeeper.Led.{Led, one_ask, then_begins}
use Rattle.law_world.proofs.OfGuardKeeper.Slots.{passed_slot}
use Rattle.law_world.proofs.OfGuardKeeper.TurnLed.{TurnLed, slotless_led}

scan_busy : (step : Scanning) → is_done (scan_ask step) ≡ false → is_at_rest (Scans step) ≡ false
unfolding scan_ask
scan_busy scan.AtRest e = cc
scan_busy step e = refl

pub scan_ended : (step : Scanning) → is_done (scan_ask step) ≡ true → is_at_rest (Scans step) ≡ true
unfolding scan_ask
scan_ended scan.AtRest e = refl
scan_ended step e = cc

pub scan_slot : (step : Scanning) → is_of_slot (scan_ask step) ≡ false
unfolding scan_ask
scan_slot scan.AtRest = refl
scan_slot scan.LoadsEpoch = refl
scan_slot (scan.LoadsSession session least) = refl
scan_slot (scan.RaisesSafe least) = refl

-- a scan that has come to a step
abbrev scan_at : MaintainState → Scanning → MaintainState
scan_at s next = record s { scanning = next; step = maintain.Scans }

scan_goes : (n : GuardNow) (a : ℕ) (x : Actor) (seen : LastSeen) (s : MaintainState) (next : Scanning) (words : List ℕ) (ask : Ask (Unit {0})) → scan_ask next ≡ ask → slice_get n.actors a ≡ Some x
    → is_idle x.work ≡ true → x.seen ≡ seen → x.undecided ≡ None → runs_now n (Moves a ∷ []) ≡ put_near n a (near words n.actions (record x { machine = Scans next }))
    → Led n a (scan_events a ask) seen (maintain_machine (scan_ledto (scan_at s next) ask)) (maintain_work (scan_ledto (scan_at s next) ask)) words n.actions
unfolding scan_ledto
scan_goes n a x seen s next words (Done its) e got idle same none led = record {
  follows = record {
    actor = record x { machine = Claims (claim.MeetsSlot 0 None); work = Rests };
    same = then_begins n a x (record x { machine = Scans next }) (Moves a ∷ []) words n.actions (ToDo ToClaim) got led (scan_ended next (ap is_done e)) idle refl;
    fits = record { machine = refl; work = refl; seen = same; undecided = none };
  };
  busy = refl;
}
scan_goes n a x seen s next words ask e got idle same none led = record {
  follows = record { actor = record x { machine = Scans next }; same = led; fits = record { machine = refl; work = idle; seen = same; undecided = none } };
  busy = scan_busy next (ap is_done e);
}

pub scan_behind : (shape : Shape) (p : Places) (s : MaintainState) (next : Scanning) (ask : Ask (Unit {0})) → is_of_slot (maintain_ask shape p (scan_ledto (scan_at s next) ask)) ≡ false
unfolding scan_ledto maintaining_ask claim_ask passed
scan_behind shape p s next (Done its) = refl
scan_behind shape p s next ask = passed_slot (scan_ask next) answer.Through ∙ scan_slot next

pub scanned_to : (n : GuardNow) (a : ℕ) (x : Actor) (seen : LastSeen) (s : MaintainState) → n.places.sessions ≡ n.shape.sessions → slice_get n.actors a ≡ Some x
    → Fits (likeness seen (Some (Scans s.scanning)) None) x
    → (let reply : ℕ = reply_to n.words (scan_ask s.scanning) in let here : MaintainState = record s { step = maintain.Scans } in
    TurnLed n a (maintain_events a n.shape n.places here maintain.Scans reply) seen (maintain_next n.shape n.places here reply) (words_after n.words (scan_ask s.scanning)))
unfolding maintaining_next maintain_events
scanned_to n a x seen s sessions got fits =
    let words : List ℕ = words_after n.words (scan_ask s.scanning) in
    let reply : ℕ = reply_to n.words (scan_ask s.scanning) in
    let next : Scanning = scan_next n.shape.sessions s.scanning reply in
    slotless_led n a (scan_events a (scan_ask next)) seen (scan_ledto (scan_at s next) (scan_ask next)) words (scan_behind n.shape n.places s next (scan_ask next))
    (scan_goes n a x seen s next words (scan_ask next) refl got fits.work fits.seen fits.undecided
    (one_ask n a x (Scans s.scanning) got fits.machine fits.work refl
    ∙ ap (λ (k : ℕ). put_near n a (near words n.actions (record x { machine = Scans (scan_next k s.scanning reply) }))) sessions))
