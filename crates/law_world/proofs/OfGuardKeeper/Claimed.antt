-- A step of a turn's claims: an armed action is taken out of its slot with the claim, and run.
use Rattle.std.proofs.Common.{◌≡◌, ℕ, List, [], ◌∷◌, refl, ap, sym, ◌∙◌, Bool, true, false}
use Rattle.std.specs.Prelude.{◌&&◌, Option, Some, None, slice_get, slice_set}
use Rattle.fkv_base.specs.declared.shapes.Shape.{Shape}
use Rattle.fkv_plane.specs.declared.actions.Action.{Action}
use Rattle.fkv_plane.specs.declared.actions.Action.TheVariants as act
use Rattle.fkv_plane.specs.declared.asks.Ask.{Ask}
use Rattle.fkv_plane.specs.declared.asks.Ask.TheVariants.{Done}
use Rattle.fkv_plane.specs.declared.places.Places.{Places}
use Rattle.fkv_plane.specs.Asked.{reply_to, words_after}
use Rattle.fkv_plane.specs.Passing.{passed, is_done}
use Rattle.fkv_plane.specs.Plane.{action_at}
use Rattle.fkv_epoch.specs.declared.claiming.Claiming.{Claiming}
use Rattle.fkv_epoch.specs.declared.claiming.Claiming.TheVariants as claim
use Rattle.fkv_epoch.specs.Claiming.{claim_ask, claim_next, claim_given}
use Rattle.fkv_epoch.specs.EpochWorld.{EpochNear, Claims, is_at_rest, claimed, received}
use Rattle.fkv_flush.specs.declared.flushing.Flushing.{Flushing}
use Rattle.fkv_flush.specs.declared.flushing.Flushing.TheVariants as flush
use Rattle.fkv_flush.specs.Flushing.{flush_ask}
use Rattle.fkv_flush.specs.GuardSeen.{LastSeen}
use Rattle.fkv_flush.specs.GuardWorld.{Actor, Flushes, GuardNow, Moves, ToFlush, near, put_near, is_idle}
use Rattle.fkv_flush.proofs.Shown.{runs_now, Fits}
use Rattle.fkv_maintain.specs.declared.maintaining.MaintainAnswer.TheVariants as answer
use Rattle.fkv_maintain.specs.declared.maintaining.Maintaining.TheVariants as maintain
use Rattle.fkv_maintain.specs.Maintaining.{MaintainState, bytes_begun, flush_begun, is_sync_due, device_asked, maintaining_ask, maintaining_next, maintaining_given, maintain_ask, maintain_next, claim_ledto}
use Rattle.law_world.specs.GuardKeeper.MaintainEvents.{claim_events, maintain_events, then_flushes}
use Rattle.law_world.specs.GuardKeeper.MaintainShown.{maintain_machine, maintain_work}
use Rattle.law_world.specs.GuardKeeper.Settled.{is_of_slot, maintain_gets}
use Rattle.law_world.specs.GuardKeeper.Followed.{likeness}
use Rattle.law_world.proofs.OfGuardKeeper.Flushed.{flush_slot}
use Rattle.law_world.proofs.OfGuardKeeper.HandsOver.{claim_takes_up}
use Rattle.law_world.proofs.OfGuardKeeper.Led.{Led, one_ask, then_begins}
use Rattle.law_world.proofs.OfGuardKeeper.Slots.{passed_slot, emptied}
use Rattle.law_world.proofs.OfGuardKeeper.TurnLed.{TurnLed, device_slot, slotless_led}

claim_busy : (step : Claiming) → is_done (claim_ask step) ≡ false → is_at_rest (Claims step) ≡ false
unfolding claim_ask
claim_busy claim.AtRest e = cc
claim_busy step e = refl

pub claim_ended : (step : Claiming) → is_done (claim_ask step) ≡ true → is_at_rest (Claims step) ≡ true
unfolding claim_ask
claim_ended claim.AtRest e = refl
claim_ended (claim.Runs slot epoch safe (act.SafeReadOnly addr)) e = cc
claim_ended (claim.Runs slot epoch safe (act.Close addr)) e = cc
claim_ended (claim.Runs slot epoch safe (act.Phase phase version)) e = cc
claim_ended step e = cc

-- claims that have come to a step
abbrev claim_at : MaintainState → Claiming → MaintainState
claim_at s next = record s { claiming = next; step = maintain.Claims }

first_false : (b : Bool) → (b && true) ≡ false → b ≡ false
first_false true e = cc
first_false false e = refl

-- where no flush rests one begins
claim_ends : (n : GuardNow) (a : ℕ) (x : Actor) (seen : LastSeen) (flushing : Flushing) (bytes : List ℕ) (next : Claiming) (words : List ℕ) → is_sync_due flushing ≡ false → is_at_rest (Claims next) ≡ true → slice_get n.actors a ≡ Some x
    → is_idle x.work ≡ true → x.seen ≡ seen → x.undecided ≡ None → runs_now n (Moves a ∷ []) ≡ put_near n a (near words n.actions (record x { machine = Claims next }))
    → Led n a (then_flushes a flushing (Moves a ∷ [])) seen None (Some (Flushes (flush_begun flushing) (bytes_begun flushing bytes))) words n.actions
claim_ends n a x seen (flush.Syncs end) bytes next words due rest got idle same none led = cc
claim_ends n a x seen step bytes next words due rest got idle same none led = record {
  follows = record {
    actor = record x { machine = Claims next; work = Flushes flush.LoadsFlushed [] };
    same = then_begins n a x (record x { machine = Claims next }) (Moves a ∷ []) words n.actions ToFlush got led rest idle refl;
    fits = record { machine = rest; work = refl; seen = same; undecided = none };
  };
  busy = refl;
}

claim_goes : (n : GuardNow) (a : ℕ) (x : Actor) (seen : LastSeen) (s : MaintainState) (next : Claiming) (words : List ℕ) (ask : Ask (Unit {0})) → claim_ask next ≡ ask → slice_get n.actors a ≡ Some x
    → is_idle x.work ≡ true → x.seen ≡ seen → x.undecided ≡ None → runs_now n (Moves a ∷ []) ≡ put_near n a (near words n.actions (record x { machine = Claims next })) → (is_sync_due s.flushing && is_done ask) ≡ false
    → Led n a (claim_events a s.flushing ask) seen (maintain_machine (claim_ledto (claim_at s next) ask)) (maintain_work (claim_ledto (claim_at s next) ask)) words n.actions
unfolding claim_ledto
claim_goes n a x seen s next words (Done its) e got idle same none led plain = claim_ends n a x seen s.flushing s.bytes next words (first_false (is_sync_due s.flushing) plain) (claim_ended next (ap is_done e)) got idle same none led
claim_goes n a x seen s next words ask e got idle same none led plain = record {
  follows = record { actor = record x { machine = Claims next }; same = led; fits = record { machine = refl; work = idle; seen = same; undecided = none } };
  busy = claim_busy next (ap is_done e);
}

-- the action of the slot comes out with the claim, where there is one
claim_takes : (n : GuardNow) (a : ℕ) (x : Actor) (seen : LastSeen) (s : MaintainState) (slot epoch safe : ℕ) (words : List ℕ) (found : Option Action) → action_at n.actions slot ≡ found
    → is_idle x.work ≡ true → x.seen ≡ seen → x.undecided ≡ None
    → (let there : EpochNear = received words n.actions slot epoch safe found in
    runs_now n (Moves a ∷ []) ≡ put_near n a (near there.words there.actions (record x { machine = there.machine })))
    → (let its : MaintainState = maintain_gets (claim_at s (claim.Receives slot epoch safe)) found in
    Led n a (Moves a ∷ []) seen (maintain_machine its) (maintain_work its) words (slice_set n.actions slot None))
unfolding maintaining_given claim_ledto claim_given claim_ask
claim_takes n a x seen s slot epoch safe words None e idle same none led = record {
  follows = record {
    actor = record x { machine = Claims (claim.Receives slot epoch safe) };
    same = led ∙ ap (λ (actions : List (Option Action)). put_near n a (near words actions (record x { machine = Claims (claim.Receives slot epoch safe) }))) (sym (emptied n.actions slot e));
    fits = record { machine = refl; work = idle; seen = same; undecided = none };
  };
  busy = refl;
}
claim_takes n a x seen s slot epoch safe words (Some (act.SafeReadOnly addr)) e idle same none led = record {
  follows = record { actor = record x { machine = Claims (claim.Runs slot epoch safe (act.SafeReadOnly addr)) }; same = led; fits = record { machine = refl; work = idle; seen = same; undecided = none } };
  busy = refl;
}
claim_takes n a x seen s slot epoch safe words (Some (act.Close addr)) e idle same none led = record {
  follows = record { actor = record x { machine = Claims (claim.Runs slot epoch safe (act.Close addr)) }; same = led; fits = record { machine = refl; work = idle; seen = same; undecided = none } };
  busy = refl;
}
claim_takes n a x seen s slot epoch safe words (Some (act.Phase phase version)) e idle same none led = record {
  follows = record { actor = record x { machine = Claims (claim.Runs slot epoch safe (act.Phase phase version)) }; same = led; fits = record { machine = refl; work = idle; seen = same; undecided = none } };
  busy = refl;
}

claim_behind : (shape : Shape) (p : Places) (s : MaintainState) (next : Claiming) (ask : Ask (Unit {0})) → is_of_slot (claim_ask next) ≡ false → is_of_slot (maintain_ask shape p (claim_ledto (claim_at s next) ask)) ≡ false
unfolding claim_ledto maintaining_ask device_asked flush_ask passed
claim_behind shape p s next (Done its) e = device_slot (flush_ask p (flush_begun s.flushing)) ∙ flush_slot p (flush_begun s.flushing)
claim_behind shape p s next ask e = passed_slot (claim_ask next) answer.Through ∙ e

-- by where the ask leads
claims_on : (n : GuardNow) (a : ℕ) (x : Actor) (seen : LastSeen) (s : MaintainState) (next : Claiming) (words : List ℕ) → slice_get n.actors a ≡ Some x → is_idle x.work ≡ true → x.seen ≡ seen → x.undecided ≡ None
    → (let there : EpochNear = claimed words n.actions next in
    runs_now n (Moves a ∷ []) ≡ put_near n a (near there.words there.actions (record x { machine = there.machine }))) → claim_takes_up s.flushing next ≡ false
    → TurnLed n a (claim_events a s.flushing (claim_ask next)) seen (claim_ledto (claim_at s next) (claim_ask next)) words
unfolding maintaining_ask claim_ledto claim_ask passed
claims_on n a x seen s (claim.Receives slot epoch safe) words got idle same none led plain = claim_takes n a x seen s slot epoch safe words (action_at n.actions slot) refl idle same none led
claims_on n a x seen s (claim.Runs slot epoch safe action) words got idle same none led plain =
    slotless_led n a (claim_events a s.flushing (claim_ask (claim.Runs slot epoch safe action))) seen (claim_ledto (claim_at s (claim.Runs slot epoch safe action)) (claim_ask (claim.Runs slot epoch safe action))) words
    (claim_behind n.shape n.places s (claim.Runs slot epoch safe action) (claim_ask (claim.Runs slot epoch safe action)) (run_slot slot epoch safe action))
    (claim_goes n a x seen s (claim.Runs slot epoch safe action) words (claim_ask (claim.Runs slot epoch safe action)) refl got idle same none led plain)
  where
    run_slot : (slot epoch safe : ℕ) (action : Action) → is_of_slot (claim_ask (claim.Runs slot epoch safe action)) ≡ false
    run_slot slot epoch safe (act.SafeReadOnly addr) = refl
    run_slot slot epoch safe (act.Close addr) = refl
    run_slot slot epoch safe (act.Phase phase version) = refl
claims_on n a x seen s next words got idle same none led plain =
    slotless_led n a (claim_events a s.flushing (claim_ask next)) seen (claim_ledto (claim_at s next) (claim_ask next)) words (claim_behind n.shape n.places s next (claim_ask next) refl)
    (claim_goes n a x seen s next words (claim_ask next) refl got idle same none led plain)

pub claimed_to : (n : GuardNow) (a : ℕ) (x : Actor) (seen : LastSeen) (s : MaintainState) → slice_get n.actors a ≡ Some x → Fits (likeness seen (Some (Claims s.claiming)) None) x
    → claim_takes_up s.flushing (claim_next s.claiming (reply_to n.words (claim_ask s.claiming))) ≡ false
    → (let reply : ℕ = reply_to n.words (claim_ask s.claiming) in let here : MaintainState = record s { step = maintain.Claims } in
    TurnLed n a (maintain_events a n.shape n.places here maintain.Claims reply) seen (maintain_next n.shape n.places here reply) (words_after n.words (claim_ask s.claiming)))
unfolding maintaining_next maintain_events
claimed_to n a x seen s got fits plain =
    let words : List ℕ = words_after n.words (claim_ask s.claiming) in
    claims_on n a x seen s (claim_next s.claiming (reply_to n.words (claim_ask s.claiming))) words got fits.work fits.seen fits.undecided
    (one_ask n a x (Claims s.claiming) got fits.machine fits.work refl) plain
