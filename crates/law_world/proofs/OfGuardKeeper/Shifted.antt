-- A step of a turn's shift of the read-only offset.
use Rattle.std.proofs.Common.{◌≡◌, ℕ, List, [], ◌∷◌, refl, sym, ap, subst, ◌∙◌, true, false}
use Rattle.std.specs.Prelude.{Option, Some, None, slice_get, slice_set}
use Rattle.fkv_base.specs.declared.numbers.Addr.{Addr}
use Rattle.fkv_plane.specs.declared.actions.Action.{Action}
use Rattle.fkv_plane.specs.declared.asks.Ask.{Ask}
use Rattle.fkv_plane.specs.declared.asks.Ask.TheVariants.{Put, Take, Done}
use Rattle.fkv_plane.specs.Asked.{reply_to, words_after}
use Rattle.fkv_plane.specs.Passing.{passed, is_done}
use Rattle.fkv_epoch.specs.EpochWorld.{is_at_rest}
use Rattle.fkv_log.specs.declared.shifting.ShiftAnswer.{ShiftAnswer}
use Rattle.fkv_log.specs.declared.shifting.ShiftAnswer.TheVariants as shifted
use Rattle.fkv_log.specs.declared.turning.TurnForm.TheVariants.{Whole}
use Rattle.fkv_log.specs.Shifting.{ShiftState, shift_ask, shift_next, shift_next_ask}
use Rattle.fkv_log.specs.Turning.{turn_begun, turning_ask}
use Rattle.fkv_log.proofs.Shown.{shift_goes_on}
use Rattle.fkv_flush.specs.GuardLevels.{levels_of}
use Rattle.fkv_flush.specs.GuardSeen.{LastSeen}
use Rattle.fkv_flush.specs.GuardWorld.{Actor, Work, Shifts, Turns, GuardNow, GuardNear, GuardWorld, Moves, ToTurnPage, near, put_near, is_idle, actions_after}
use Rattle.fkv_flush.specs.GuardWorld as guard
use Rattle.fkv_flush.proofs.Shown.{runs_now, moves_work, Fits, FitsMachine, Knows, Awake, IsSound, Goes, shift_goes}
use Rattle.fkv_maintain.specs.declared.maintaining.MaintainAnswer.TheVariants as answer
use Rattle.fkv_maintain.specs.declared.maintaining.Maintaining.TheVariants as maintain
use Rattle.fkv_maintain.specs.Maintaining.{MaintainState, maintaining_ask, maintaining_next, maintain_next, shift_ledto}
use Rattle.law_world.specs.GuardKeeper.MaintainEvents.{shift_events, maintain_events}
use Rattle.law_world.specs.GuardKeeper.MaintainShown.{maintain_machine, maintain_work}
use Rattle.law_world.specs.GuardSessions.OwnTurns.{shift_machine}
use Rattle.law_world.specs.GuardKeeper.Followed.{likeness}
use Rattle.law_world.proofs.OfGuardKeeper.Led.{Led, then_begins}
use Rattle.law_world.proofs.OfGuardSessions.Movers.{shift_fits, known_after, shift_rests_so, shift_under_way}
use Rattle.law_world.proofs.OfGuardKeeper.Slots.{passed_slot}
use Rattle.law_world.proofs.OfGuardKeeper.TurnLed.{TurnLed, slotless_led, led_by_ask}
use Rattle.law_world.specs.GuardKeeper.Settled.{is_of_slot}

-- a shift that has come to a state
abbrev in_shift : MaintainState → ShiftState → MaintainState
in_shift s t = record s { shift = t; step = maintain.Shifts }

shift_stays : (s : MaintainState) (ask : Ask ShiftAnswer) → is_done ask ≡ false → shift_ledto s ask ≡ s
unfolding shift_ledto
shift_stays s (Done answer) e = cc
shift_stays s ask e = refl

-- the page's turn begins, with the tail that was loaded
page_begins : (n : GuardNow) (a : ℕ) (x y : Actor) (seen : LastSeen) (s : MaintainState) (tail : Addr) (words : List ℕ) → slice_get n.actors a ≡ Some x
    → is_at_rest y.machine ≡ true → is_idle y.work ≡ true → y.seen ≡ seen → y.undecided ≡ None → runs_now n (Moves a ∷ []) ≡ put_near n a (near words n.actions y)
    → TurnLed n a (guard.Begins a (ToTurnPage Whole tail.0) ∷ Moves a ∷ []) seen (record s { turn = turn_begun Whole tail.0; step = maintain.Turns }) words
unfolding maintaining_ask turning_ask passed
page_begins n a x y seen s tail words got rests idle same none led =
    slotless_led n a (guard.Begins a (ToTurnPage Whole tail.0) ∷ Moves a ∷ []) seen (record s { turn = turn_begun Whole tail.0; step = maintain.Turns }) words refl (record {
      follows = record {
        actor = record y { work = Turns (turn_begun Whole tail.0) };
        same = then_begins n a x y (Moves a ∷ []) words n.actions (ToTurnPage Whole tail.0) got led rests idle refl;
        fits = record { machine = rests; work = refl; seen = same; undecided = none };
      };
      busy = refl;
    })

shifts_on : (n : GuardNow) (a : ℕ) (x y : Actor) (seen : LastSeen) (s : MaintainState) (t : ShiftState) (words : List ℕ) (ask : Ask ShiftAnswer) → slice_get n.actors a ≡ Some x
    → (is_done ask ≡ false → ask ≡ shift_ask t) → Goes ask (Shifts t) (Shifts (shift_next n.shape t 0)) y → y.seen ≡ seen → y.undecided ≡ None
    → ((there : ShiftState) → y.work ≡ Shifts there → is_idle (Shifts there) ≡ false → FitsMachine (shift_machine there.step there.mover) y.machine)
    → runs_now n (Moves a ∷ []) ≡ put_near n a (near words (actions_after n.actions (shift_ask t)) y)
    → TurnLed n a (shift_events a ask) seen (shift_ledto (in_shift s t) ask) words
unfolding shift_ledto maintaining_ask maintaining_next passed
shifts_on n a x y seen s t words (Done (shifted.Through tail)) got h g same none fits led =
    page_begins n a x y seen (in_shift s t) tail words got g.2 g.1 same none (led ∙ ap (λ (actions : List (Option Action)). put_near n a (near words actions y)) (shift_rests_so n.actions t (ap is_idle (sym g.0) ∙ g.1)))
shifts_on n a x y seen s t words (Done (shifted.NoSlot tail)) got h g same none fits led =
    page_begins n a x y seen (record s { shift = t; is_drain_full = true; step = maintain.Shifts }) tail words got g.2 g.1 same none (led ∙ ap (λ (actions : List (Option Action)). put_near n a (near words actions y)) (shift_rests_so n.actions t (ap is_idle (sym g.0) ∙ g.1)))
shifts_on n a x y seen s t words (Done (shifted.Spent tail)) got h g same none fits led = record {
  follows = record {
    actor = y;
    same = led ∙ ap (λ (actions : List (Option Action)). put_near n a (near words actions y)) (shift_rests_so n.actions t (ap is_idle (sym g.0) ∙ g.1));
    fits = record { machine = g.2; work = g.1; seen = same; undecided = none };
  };
  busy = tt;
}
shifts_on n a x y seen s t words (Put slot action) got h g same none fits led =
    let there : ShiftState = shift_next n.shape t 0 in
    let busy : is_idle (Shifts there) ≡ false = ap is_idle (sym g.0) ∙ g.1 in
    let its : shift_ask t ≡ Put slot action = sym (h refl) in
    led_by_ask n a (Moves a ∷ []) seen (in_shift s t) words (Put slot action) (ap (λ (k : Ask ShiftAnswer). passed k answer.Through) its)
    (subst (λ (m : MaintainState). Led n a (Moves a ∷ []) seen (maintain_machine m) (maintain_work m) words (slice_set n.actions slot (Some action))) (sym (shift_stays (in_shift s there) (shift_next_ask n.shape t 0) (shift_under_way n.shape t 0 busy)))
    (record {
      follows = record {
        actor = y;
        same = led ∙ ap (λ (k : Ask ShiftAnswer). put_near n a (near words (actions_after n.actions k) y)) its;
        fits = record { machine = fits there g.0 busy; work = g.0; seen = same; undecided = none };
      };
      busy = busy;
    }))
shifts_on n a x y seen s t words (Take slot) got h g same none fits led = absurd g
shifts_on n a x y seen s t words ask got h g same none fits led =
    let busy : is_idle (Shifts t) ≡ false = ap is_idle (sym g.0) ∙ g.1 in
    slotless_led n a (Moves a ∷ []) seen (in_shift s t) words (passed_slot (shift_ask t) answer.Through ∙ ap is_of_slot (sym (h refl))) (record {
      follows = record {
        actor = y;
        same = led ∙ ap (λ (k : Ask ShiftAnswer). put_near n a (near words (actions_after n.actions k) y)) (sym (h refl));
        fits = record { machine = fits t g.0 busy; work = g.0; seen = same; undecided = none };
      };
      busy = busy;
    })

pub shifted_to : (w : GuardWorld) (a : ℕ) (x : Actor) (seen : LastSeen) (s : MaintainState) → IsSound w → slice_get w.now.actors a ≡ Some x
    → Fits (likeness seen (shift_machine s.shift.step s.shift.mover) (Some (Shifts s.shift))) x → is_idle (Shifts s.shift) ≡ false
    → (let n : GuardNow = w.now in let reply : ℕ = reply_to n.words (shift_ask s.shift) in let here : MaintainState = record s { step = maintain.Shifts } in
    TurnLed n a (maintain_events a n.shape n.places here maintain.Shifts reply) seen (maintain_next n.shape n.places here reply) (words_after n.words (shift_ask s.shift)))
unfolding maintaining_next maintain_events
shifted_to w a x seen s sound got fits busy =
    let n : GuardNow = w.now in
    let reply : ℕ = reply_to n.words (shift_ask s.shift) in
    let here : GuardNear = guard.shifted n x s.shift in
    let led : runs_now n (Moves a ∷ []) ≡ put_near n a here = moves_work n a x got (Shifts s.shift) fits.work busy in
    shifts_on n a x here.actor seen s (shift_next n.shape s.shift reply) (words_after n.words (shift_ask s.shift)) (shift_next_ask n.shape s.shift reply) got
    (shift_goes_on n.shape s.shift reply) (shift_goes w a x s.shift sound got fits.work busy) fits.seen fits.undecided
    (λ there its under. shift_fits (levels_of here.words) here.actor.machine there.step there.mover
    (subst (λ (work : Work). Knows n.shape (levels_of here.words) (Awake (put_near n a here) a here.actor.machine) here.actor.machine here.actor.undecided work) its (known_after w a x (Moves a) here sound got led)) under)
    led
