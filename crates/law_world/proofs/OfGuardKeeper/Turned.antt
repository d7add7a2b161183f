-- A step of a turn's page: the next one is opened, or the head is moved for it.
use Rattle.std.proofs.Common.{◌≡◌, ℕ, List, [], ◌∷◌, refl, sym, ap, subst, ◌∙◌, true, false}
use Rattle.std.specs.Prelude.{Option, Some, None, slice_get, slice_set}
use Rattle.fkv_plane.specs.declared.actions.Action.{Action}
use Rattle.fkv_plane.specs.declared.asks.Ask.{Ask}
use Rattle.fkv_plane.specs.declared.asks.Ask.TheVariants.{Put, Take, Done}
use Rattle.fkv_plane.specs.Asked.{reply_to, words_after}
use Rattle.fkv_plane.specs.Passing.{passed, is_done}
use Rattle.fkv_epoch.specs.EpochWorld.{is_at_rest}
use Rattle.fkv_log.specs.declared.moving.MoveAnswer.{MoveAnswer}
use Rattle.fkv_log.specs.declared.moving.MoveAnswer.TheVariants as moved
use Rattle.fkv_log.specs.Turning.{TurnState, turn_ask, turn_next, turn_next_ask}
use Rattle.fkv_log.proofs.Shown.{turn_goes_on}
use Rattle.fkv_flush.specs.Serving.{mailbox_from}
use Rattle.fkv_flush.specs.GuardLevels.{levels_of}
use Rattle.fkv_flush.specs.GuardSeen.{LastSeen}
use Rattle.fkv_flush.specs.GuardWorld.{Actor, Work, Turns, GuardNow, GuardNear, GuardWorld, Moves, ToServe, near, put_near, is_idle, actions_after}
use Rattle.fkv_flush.specs.GuardWorld as guard
use Rattle.fkv_flush.proofs.Shown.{runs_now, moves_work, Fits, FitsMachine, Knows, Awake, IsSound, Goes, turn_goes}
use Rattle.fkv_maintain.specs.declared.maintaining.MaintainAnswer.TheVariants as answer
use Rattle.fkv_maintain.specs.declared.maintaining.Maintaining.TheVariants as maintain
use Rattle.fkv_maintain.specs.Maintaining.{MaintainState, maintaining_ask, maintaining_next, maintain_next, serve_begun, turn_ledto}
use Rattle.law_world.specs.GuardKeeper.MaintainEvents.{turn_events, maintain_events}
use Rattle.law_world.specs.GuardKeeper.MaintainShown.{maintain_machine, maintain_work, turn_machine}
use Rattle.law_world.specs.GuardKeeper.Settled.{is_of_slot}
use Rattle.law_world.specs.GuardKeeper.Followed.{likeness}
use Rattle.law_world.proofs.OfGuardKeeper.Led.{Led, then_begins}
use Rattle.law_world.proofs.OfGuardKeeper.Movers.{turn_fits, turn_rests_so, turn_under_way}
use Rattle.law_world.proofs.OfGuardSessions.Movers.{known_after}
use Rattle.law_world.proofs.OfGuardKeeper.Served.{serves_on}
use Rattle.law_world.proofs.OfGuardKeeper.Slots.{passed_slot}
use Rattle.law_world.proofs.OfGuardKeeper.TurnLed.{TurnLed, slotless_led, led_by_ask}

-- a page's turn that has come to a state
abbrev in_turn : MaintainState → TurnState → MaintainState
in_turn s t = record s { turn = t; step = maintain.Turns }

turn_stays : (n : GuardNow) (s : MaintainState) (ask : Ask MoveAnswer) → is_done ask ≡ false → turn_ledto n.shape s ask ≡ s
unfolding turn_ledto
turn_stays n s (Done answer) e = cc
turn_stays n s ask e = refl

-- the mailboxes begin
mail_begins : (n : GuardNow) (a : ℕ) (x y : Actor) (seen : LastSeen) (s : MaintainState) (words : List ℕ) → slice_get n.actors a ≡ Some x
    → is_at_rest y.machine ≡ true → is_idle y.work ≡ true → y.seen ≡ seen → y.undecided ≡ None → runs_now n (Moves a ∷ []) ≡ put_near n a (near words n.actions y)
    → TurnLed n a (guard.Begins a (ToServe s.begin.0) ∷ Moves a ∷ []) seen (serve_begun n.shape s) words
mail_begins n a x y seen s words got rests idle same none led =
    serves_on n a y seen s (guard.Begins a (ToServe s.begin.0) ∷ Moves a ∷ []) (mailbox_from n.shape.sessions 0) words rests same none
    (then_begins n a x y (Moves a ∷ []) words n.actions (ToServe s.begin.0) got led rests idle refl)

turns_on : (n : GuardNow) (a : ℕ) (x y : Actor) (seen : LastSeen) (s : MaintainState) (t : TurnState) (words : List ℕ) (ask : Ask MoveAnswer) → slice_get n.actors a ≡ Some x
    → (is_done ask ≡ false → ask ≡ turn_ask n.shape t) → Goes ask (Turns t) (Turns (turn_next n.shape t 0)) y → y.seen ≡ seen → y.undecided ≡ None
    → ((there : TurnState) → y.work ≡ Turns there → is_idle (Turns there) ≡ false → FitsMachine (turn_machine there.step there.mover) y.machine)
    → runs_now n (Moves a ∷ []) ≡ put_near n a (near words (actions_after n.actions (turn_ask n.shape t)) y)
    → TurnLed n a (turn_events a s.begin.0 ask) seen (turn_ledto n.shape (in_turn s t) ask) words
unfolding turn_ledto maintaining_ask maintaining_next passed
turns_on n a x y seen s t words (Done moved.Through) got h g same none fits led =
    mail_begins n a x y seen (in_turn s t) words got g.2 g.1 same none (led ∙ ap (λ (actions : List (Option Action)). put_near n a (near words actions y)) (turn_rests_so n.shape n.actions t (ap is_idle (sym g.0) ∙ g.1)))
turns_on n a x y seen s t words (Done moved.NoSlot) got h g same none fits led =
    mail_begins n a x y seen (record s { turn = t; is_drain_full = true; step = maintain.Turns }) words got g.2 g.1 same none (led ∙ ap (λ (actions : List (Option Action)). put_near n a (near words actions y)) (turn_rests_so n.shape n.actions t (ap is_idle (sym g.0) ∙ g.1)))
turns_on n a x y seen s t words (Done moved.Spent) got h g same none fits led = record {
  follows = record {
    actor = y;
    same = led ∙ ap (λ (actions : List (Option Action)). put_near n a (near words actions y)) (turn_rests_so n.shape n.actions t (ap is_idle (sym g.0) ∙ g.1));
    fits = record { machine = g.2; work = g.1; seen = same; undecided = none };
  };
  busy = tt;
}
turns_on n a x y seen s t words (Put slot action) got h g same none fits led =
    let there : TurnState = turn_next n.shape t 0 in
    let busy : is_idle (Turns there) ≡ false = ap is_idle (sym g.0) ∙ g.1 in
    let its : turn_ask n.shape t ≡ Put slot action = sym (h refl) in
    led_by_ask n a (Moves a ∷ []) seen (in_turn s t) words (Put slot action) (ap (λ (k : Ask MoveAnswer). passed k answer.Through) its)
    (subst (λ (m : MaintainState). Led n a (Moves a ∷ []) seen (maintain_machine m) (maintain_work m) words (slice_set n.actions slot (Some action))) (sym (turn_stays n (in_turn s there) (turn_next_ask n.shape t 0) (turn_under_way n.shape t 0 busy)))
    (record {
      follows = record {
        actor = y;
        same = led ∙ ap (λ (k : Ask MoveAnswer). put_near n a (near words (actions_after n.actions k) y)) its;
        fits = record { machine = fits there g.0 busy; work = g.0; seen = same; undecided = none };
      };
      busy = busy;
    }))
turns_on n a x y seen s t words (Take slot) got h g same none fits led = absurd g
turns_on n a x y seen s t words ask got h g same none fits led =
    let busy : is_idle (Turns t) ≡ false = ap is_idle (sym g.0) ∙ g.1 in
    slotless_led n a (Moves a ∷ []) seen (in_turn s t) words (passed_slot (turn_ask n.shape t) answer.Through ∙ ap is_of_slot (sym (h refl))) (record {
      follows = record {
        actor = y;
        same = led ∙ ap (λ (k : Ask MoveAnswer). put_near n a (near words (actions_after n.actions k) y)) (sym (h refl));
        fits = record { machine = fits t g.0 busy; work = g.0; seen = same; undecided = none };
      };
      busy = busy;
    })

pub turned_to : (w : GuardWorld) (a : ℕ) (x : Actor) (seen : LastSeen) (s : MaintainState) → IsSound w → slice_get w.now.actors a ≡ Some x
    → Fits (likeness seen (turn_machine s.turn.step s.turn.mover) (Some (Turns s.turn))) x → is_idle (Turns s.turn) ≡ false
    → (let n : GuardNow = w.now in let reply : ℕ = reply_to n.words (turn_ask n.shape s.turn) in let here : MaintainState = record s { step = maintain.Turns } in
    TurnLed n a (maintain_events a n.shape n.places here maintain.Turns reply) seen (maintain_next n.shape n.places here reply) (words_after n.words (turn_ask n.shape s.turn)))
unfolding maintaining_next maintain_events
turned_to w a x seen s sound got fits busy =
    let n : GuardNow = w.now in
    let reply : ℕ = reply_to n.words (turn_ask n.shape s.turn) in
    let here : GuardNear = guard.turned n x s.turn in
    let led : runs_now n (Moves a ∷ []) ≡ put_near n a here = moves_work n a x got (Turns s.turn) fits.work busy in
    turns_on n a x here.actor seen s (turn_next n.shape s.turn reply) (words_after n.words (turn_ask n.shape s.turn)) (turn_next_ask n.shape s.turn reply) got
    (turn_goes_on n.shape s.turn reply) (turn_goes w a x s.turn sound got fits.work busy) fits.seen fits.undecided
    (λ there its under. turn_fits n.shape (levels_of here.words) here.actor.machine there.step there.mover
    (subst (λ (work : Work). Knows n.shape (levels_of here.words) (Awake (put_near n a here) a here.actor.machine) here.actor.machine here.actor.undecided work) its (known_after w a x (Moves a) here sound got led)) under)
    led
