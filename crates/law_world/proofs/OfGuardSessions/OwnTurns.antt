-- A step of a session's own turn is one event of the guard, and what begins then.
use Rattle.std.proofs.Common.{◌≡◌, ℕ, ◌/◌, ◌∙◌, List, [], ◌∷◌, refl, sym, ap, subst, inl, inr, true, false}
use Rattle.std.specs.Prelude.{⊤, Option, Some, None, slice_get, slice_set, nat_lt, nat_le, if◌then◌else◌}
use Rattle.fkv_base.specs.declared.shapes.Shape.{Shape}
use Rattle.fkv_plane.specs.declared.actions.Action.{Action}
use Rattle.fkv_plane.specs.declared.actions.Action.TheVariants as act
use Rattle.fkv_plane.specs.declared.asks.Ask.{Ask}
use Rattle.fkv_plane.specs.declared.asks.Ask.TheVariants.{Put, Take, Done}
use Rattle.fkv_plane.specs.Asked.{words_after, reply_to}
use Rattle.fkv_plane.specs.Passing.{passed, is_done}
use Rattle.fkv_plane.specs.Plane.{action_at}
use Rattle.fkv_epoch.specs.declared.scanning.Scanning.{Scanning}
use Rattle.fkv_epoch.specs.declared.scanning.Scanning.TheVariants as scan
use Rattle.fkv_epoch.specs.declared.claiming.Claiming.{Claiming}
use Rattle.fkv_epoch.specs.declared.claiming.Claiming.TheVariants as claim
use Rattle.fkv_epoch.specs.Scanning.{scan_ask, scan_next}
use Rattle.fkv_epoch.specs.Claiming.{claim_ask, claim_next, claim_given}
use Rattle.fkv_epoch.specs.EpochWorld as epochs
use Rattle.fkv_epoch.specs.EpochWorld.{EpochMachine, EpochNear, claimed, received, is_at_rest}
use Rattle.fkv_log.specs.declared.shifting.ShiftAnswer.{ShiftAnswer}
use Rattle.fkv_log.specs.Shifting.{ShiftState, shifting_ask, shift_ask, shift_next, shift_next_ask}
use Rattle.fkv_log.specs.declared.moving.MoveAnswer.{MoveAnswer}
use Rattle.fkv_log.specs.declared.turning.TurnForm.TheVariants.{OpensOnly}
use Rattle.fkv_log.specs.declared.turning.Turning.{Turning}
use Rattle.fkv_log.specs.declared.turning.Turning.TheVariants as turn
use Rattle.fkv_log.specs.Moving.{Mover, move_at_rest}
use Rattle.fkv_log.specs.Turning.{TurnState, turn_at, turn_ask, turn_next, turning_ask, turning_next, turning_next_ask, pages_wanted, frame_end}
use Rattle.fkv_log.proofs.Shown.{shift_goes_on}
use Rattle.fkv_session.specs.declared.own_turns.OwnTurning.TheVariants.{Scans, Claims, Shifts, Opens}
use Rattle.fkv_session.specs.OwnTurns.{OwnTurnState, own_turning_ask, own_turn_ask, own_turning_next, own_turn_next, own_turning_given, scan_ledto, claim_ledto, shift_ledto, open_ledto}
use Rattle.fkv_flush.specs.GuardLevels.{levels_of}
use Rattle.fkv_flush.specs.GuardSeen.{LastSeen}
use Rattle.fkv_flush.specs.GuardWorld as guard
use Rattle.fkv_flush.specs.GuardWorld.{Actor, Work, GuardNow, GuardNear, GuardWorld, Moves, near, put_near, is_idle, shift_rests, turn_rests, actions_after, host_to, inner_machine}
use Rattle.fkv_flush.proofs.Shown.{runs_now, moves_work, Likeness, FitsMachine, FitsWork, Fits, Follows, Knows, Awake, IsSound, Goes, shift_goes}
use Rattle.law_world.specs.GuardSessions.Likenesses.{likeness, through}
use Rattle.law_world.specs.GuardSessions.Steps.{Stays}
use Rattle.law_world.specs.GuardSessions.OwnTurns.{scan_machine, claim_machine, claim_onward, shift_machine, shift_work, turn_work, shift_onward, turn_gets, turn_settled, own_turn_likeness_at}
use Rattle.law_world.proofs.OfGuardSessions.Catches.{machine_moves}
use Rattle.law_world.specs.GuardKeeper.Settled.{is_of_slot, actions_settled}
use Rattle.law_world.proofs.OfGuardKeeper.Slots.{emptied, passed_slot}
use Rattle.law_world.proofs.OfGuardSessions.Movers.{shift_fits, known_after, shift_rests_so, shift_under_way}
use Rattle.law_world.proofs.OfGuardSessions.OwnTurnsLed.{OwnTurnLed, scan_led, claim_later, claim_led, shift_ends, shift_stays, shift_asking, shift_on, shift_later}
use Rattle.law_world.specs.GuardSessions.Rows.{IsScanning, IsClaiming, IsOpening}
use Rattle.law_world.proofs.OfGuardSessions.AppendsLed.{truth}
use Rattle.law_world.proofs.OfGuardSessions.Onwards.{Keeps}

-- where a step has led, and the action that goes with it
pub record TurnMoved (n : GuardNow) (a : ℕ) (seen : LastSeen) (o : OwnTurnState) (words : List ℕ) (ask : Ask (Unit {0})) : Type 0 where
  pub mid : Likeness
  pub moved : Follows n a (Moves a ∷ []) mid words (actions_settled n.actions ask)
  pub led : OwnTurnLed seen mid (turn_settled n.shape n.actions o ask)

slotless : (n : GuardNow) (a : ℕ) (seen : LastSeen) (o : OwnTurnState) (words : List ℕ) (ask : Ask (Unit {0})) (mid : Likeness) → is_of_slot ask ≡ false → Follows n a (Moves a ∷ []) mid words n.actions → OwnTurnLed seen mid o → TurnMoved n a seen o words ask
slotless n a seen o words (Put slot action) mid e moved led = cc
slotless n a seen o words (Take slot) mid e moved led = cc
slotless n a seen o words ask mid e moved led = record { mid = mid; moved = moved; led = led }

-- the scan
pub scanning_is : (s : Scanning) (machine : EpochMachine) → IsScanning s → FitsMachine (scan_machine s) machine → machine ≡ epochs.Scans s
scanning_is scan.AtRest machine scanning fits = absurd scanning
scanning_is scan.LoadsEpoch machine scanning fits = fits
scanning_is (scan.LoadsSession session least) machine scanning fits = fits
scanning_is (scan.RaisesSafe least) machine scanning fits = fits

scan_fits : (s : Scanning) → FitsMachine (scan_machine s) (epochs.Scans s)
scan_fits scan.AtRest = refl
scan_fits s = refl

pub scan_slot : (s : Scanning) → is_of_slot (scan_ask s) ≡ false
unfolding scan_ask
scan_slot scan.AtRest = refl
scan_slot s = refl

pub scan_behind : (shape : Shape) (o : OwnTurnState) (next : Scanning) (ask : Ask (Unit {0})) → is_of_slot (own_turn_ask shape (scan_ledto (record o { scanning = next; step = Scans }) ask)) ≡ false
unfolding scan_ledto own_turning_ask claim_ask passed
scan_behind shape o next (Done its) = refl
scan_behind shape o next ask = passed_slot {B = Unit {0}} (scan_ask next) tt ∙ scan_slot next

pub claiming_is : (c : Claiming) (machine : EpochMachine) → IsClaiming c → FitsMachine (claim_machine c) machine → machine ≡ epochs.Claims c
claiming_is claim.AtRest machine claiming fits = absurd claiming
claiming_is (claim.MeetsSlot slot safe) machine claiming fits = fits
claiming_is (claim.LoadsSafe slot word) machine claiming fits = fits
claiming_is (claim.TakesSlot slot word safe) machine claiming fits = fits
claiming_is (claim.Receives slot epoch safe) machine claiming fits = fits
claiming_is (claim.Runs slot epoch safe action) machine claiming fits = fits
claiming_is (claim.FreesSlot slot safe) machine claiming fits = fits

claim_fits : (c : Claiming) → FitsMachine (claim_machine c) (epochs.Claims c)
claim_fits claim.AtRest = refl
claim_fits c = refl

claim_behind : (shape : Shape) (o : OwnTurnState) (next : Claiming) (ask : Ask (Unit {0})) → is_of_slot (claim_ask next) ≡ false → is_of_slot (own_turn_ask shape (claim_ledto (record o { claiming = next; step = Claims }) ask)) ≡ false
unfolding claim_ledto own_turning_ask shifting_ask passed
claim_behind shape o next (Done its) e = refl
claim_behind shape o next ask e = passed_slot {B = Unit {0}} (claim_ask next) tt ∙ e

run_slot : (slot epoch safe : ℕ) (action : Action) → is_of_slot (claim_ask (claim.Runs slot epoch safe action)) ≡ false
unfolding claim_ask
run_slot slot epoch safe (act.SafeReadOnly addr) = refl
run_slot slot epoch safe (act.Close addr) = refl
run_slot slot epoch safe (act.Phase phase version) = refl

module _ (n : GuardNow) (a : ℕ) (x : Actor) (seen : LastSeen) (got : slice_get n.actors a ≡ Some x) where
  pub scans_it : (o : OwnTurnState) → n.places.sessions ≡ n.shape.sessions → IsScanning o.scanning → Fits (own_turn_likeness_at seen o Scans) x
      → (let here : OwnTurnState = record o { step = Scans } in let reply : ℕ = reply_to n.words (scan_ask o.scanning) in
      TurnMoved n a seen (own_turn_next n.shape here reply) (words_after n.words (scan_ask o.scanning)) (own_turn_ask n.shape (own_turn_next n.shape here reply)))
  unfolding own_turning_next
  scans_it o same scanning fits =
      let reply : ℕ = reply_to n.words (scan_ask o.scanning) in
      let next : Scanning = scan_next n.shape.sessions o.scanning reply in
      let here : OwnTurnState = record o { step = Scans } in
      slotless n a seen (scan_ledto (record here { scanning = next }) (scan_ask next)) (words_after n.words (scan_ask o.scanning)) (own_turn_ask n.shape (scan_ledto (record here { scanning = next }) (scan_ask next)))
      (likeness (scan_machine next) None seen None) (scan_behind n.shape o next (scan_ask next))
      (subst (λ k. Follows n a (Moves a ∷ []) (likeness (scan_machine (scan_next k o.scanning reply)) None seen None) (words_after n.words (scan_ask o.scanning)) n.actions) same (record {
        actor = record x { machine = epochs.Scans (scan_next n.places.sessions o.scanning reply) };
        same = machine_moves n a x (epochs.Scans o.scanning) got (scanning_is o.scanning x.machine scanning fits.machine) fits.work;
        fits = record { machine = scan_fits (scan_next n.places.sessions o.scanning reply); work = fits.work; seen = fits.seen; undecided = fits.undecided };
      }))
      (scan_led seen here n.shape.sessions o.scanning reply refl)

  -- the action of the slot comes out with the claim, where there is one
  pub record Taken (o : OwnTurnState) (slot : ℕ) (words : List ℕ) (found : Option Action) : Type 0 where
    pub mid : Likeness
    pub moved : Follows n a (Moves a ∷ []) mid words (slice_set n.actions slot None)
    pub led : OwnTurnLed seen mid (turn_gets o found)

  claim_takes : (o : OwnTurnState) (slot epoch safe : ℕ) (words : List ℕ) (found : Option Action) → action_at n.actions slot ≡ found → is_idle x.work ≡ true → x.seen ≡ seen → x.undecided ≡ None
      → (let there : EpochNear = received words n.actions slot epoch safe found in
      runs_now n (Moves a ∷ []) ≡ put_near n a (near there.words there.actions (record x { machine = there.machine })))
      → Taken (record o { claiming = claim.Receives slot epoch safe; step = Claims }) slot words found
  unfolding own_turning_given claim_given claim_ledto claim_ask
  claim_takes o slot epoch safe words None e idle same none led = record {
    mid = likeness (Some (epochs.Claims (claim.Receives slot epoch safe))) None seen None;
    moved = record {
      actor = record x { machine = epochs.Claims (claim.Receives slot epoch safe) };
      same = led ∙ ap (λ (actions : List (Option Action)). put_near n a (near words actions (record x { machine = epochs.Claims (claim.Receives slot epoch safe) }))) (sym (emptied n.actions slot e));
      fits = record { machine = refl; work = idle; seen = same; undecided = none };
    };
    led = claim_led seen (record o { step = Claims }) (claim.Receives slot epoch safe) refl refl;
  }
  claim_takes o slot epoch safe words (Some action) e idle same none led = record {
    mid = likeness (Some (epochs.Claims (claim.Runs slot epoch safe action))) None seen None;
    moved = record {
      actor = record x { machine = epochs.Claims (claim.Runs slot epoch safe action) };
      same = led;
      fits = record { machine = refl; work = idle; seen = same; undecided = none };
    };
    led = claim_led seen (record o { step = Claims }) (claim.Runs slot epoch safe action) refl refl;
  }

  claims_on : (o : OwnTurnState) (next : Claiming) (words : List ℕ) → claim_onward next ≡ Stays → is_idle x.work ≡ true → x.seen ≡ seen → x.undecided ≡ None
      → (let there : EpochNear = claimed words n.actions next in
      runs_now n (Moves a ∷ []) ≡ put_near n a (near there.words there.actions (record x { machine = there.machine })))
      → (let after : OwnTurnState = claim_ledto (record o { claiming = next; step = Claims }) (claim_ask next) in TurnMoved n a seen after words (own_turn_ask n.shape after))
  unfolding own_turning_ask claim_ledto claim_ask passed
  claims_on o (claim.Receives slot epoch safe) words later idle same none led =
      let its = claim_takes o slot epoch safe words (action_at n.actions slot) refl idle same none led in
      record { mid = its.mid; moved = its.moved; led = its.led }
  claims_on o (claim.Runs slot epoch safe action) words later idle same none led =
      let next : Claiming = claim.Runs slot epoch safe action in
      let after : OwnTurnState = claim_ledto (record o { claiming = next; step = Claims }) (claim_ask next) in
      slotless n a seen after words (own_turn_ask n.shape after) (likeness (claim_machine next) None seen None) (claim_behind n.shape o next (claim_ask next) (run_slot slot epoch safe action))
      (record { actor = record x { machine = epochs.Claims next }; same = led; fits = record { machine = refl; work = idle; seen = same; undecided = none } })
      (claim_led seen (record o { step = Claims }) next refl later)
  claims_on o next words later idle same none led =
      let after : OwnTurnState = claim_ledto (record o { claiming = next; step = Claims }) (claim_ask next) in
      slotless n a seen after words (own_turn_ask n.shape after) (likeness (claim_machine next) None seen None) (claim_behind n.shape o next (claim_ask next) refl)
      (record { actor = record x { machine = epochs.Claims next }; same = led; fits = record { machine = claim_fits next; work = idle; seen = same; undecided = none } })
      (claim_led seen (record o { step = Claims }) next refl later)

  pub claims_it : (o : OwnTurnState) → IsClaiming o.claiming → Fits (own_turn_likeness_at seen o Claims) x
      → (let here : OwnTurnState = record o { step = Claims } in let reply : ℕ = reply_to n.words (claim_ask o.claiming) in
      TurnMoved n a seen (own_turn_next n.shape here reply) (words_after n.words (claim_ask o.claiming)) (own_turn_ask n.shape (own_turn_next n.shape here reply)))
  unfolding own_turning_next
  claims_it o claiming fits =
      let reply : ℕ = reply_to n.words (claim_ask o.claiming) in
      claims_on o (claim_next o.claiming reply) (words_after n.words (claim_ask o.claiming)) (claim_later o.claiming reply) fits.work fits.seen fits.undecided
      (machine_moves n a x (epochs.Claims o.claiming) got (claiming_is o.claiming x.machine claiming fits.machine) fits.work)

-- the shift, by what it asks next
shifts_on : (n : GuardNow) (a : ℕ) (y : Actor) (seen : LastSeen) (o : OwnTurnState) (t : ShiftState) (words : List ℕ) (ask : Ask ShiftAnswer) → (is_done ask ≡ false → ask ≡ shift_ask t) → shift_onward t.step ≡ Stays → Goes ask (guard.Shifts t) (guard.Shifts (shift_next n.shape t 0)) y
    → y.seen ≡ seen → y.undecided ≡ None → ((there : ShiftState) → y.work ≡ guard.Shifts there → is_idle (guard.Shifts there) ≡ false → FitsMachine (shift_machine there.step there.mover) y.machine)
    → runs_now n (Moves a ∷ []) ≡ put_near n a (near words (actions_after n.actions (shift_ask t)) y)
    → (let after : OwnTurnState = shift_ledto (record o { shift = t; step = Shifts }) ask in TurnMoved n a seen after words (own_turn_ask n.shape after))
unfolding shift_ledto own_turning_ask own_turning_next turning_ask passed
shifts_on n a y seen o t words (Done its) h later g same none fits led =
    let here : OwnTurnState = record o { shift = t; step = Shifts } in
    let after : OwnTurnState = shift_ledto here (Done its) in
    slotless n a seen after words (own_turn_ask n.shape after) (through seen) refl (record {
      actor = y;
      same = led ∙ ap (λ (actions : List (Option Action)). put_near n a (near words actions y)) (shift_rests_so n.actions t (ap is_idle (sym g.0) ∙ g.1));
      fits = record { machine = g.2; work = g.1; seen = same; undecided = none };
    }) (shift_ends seen here its)
shifts_on n a y seen o t words (Put slot action) h later g same none fits led =
    let here : OwnTurnState = record o { shift = t; step = Shifts } in
    let there : ShiftState = shift_next n.shape t 0 in
    let busy : is_idle (guard.Shifts there) ≡ false = ap is_idle (sym g.0) ∙ g.1 in
    let under = shift_under_way n.shape t 0 busy in
    let its : shift_ask t ≡ Put slot action = sym (h refl) in
    let asks : is_done (shift_ask there) ≡ false = ap is_done (sym (shift_goes_on n.shape t 0 under)) ∙ under in
    subst (λ (k : Ask (Unit {0})). TurnMoved n a seen here words k) (sym (ap (λ (k : Ask ShiftAnswer). passed {B = Unit {0}} k tt) its)) (record {
      mid = likeness (shift_machine there.step there.mover) (Some (guard.Shifts there)) seen None;
      moved = record {
        actor = y;
        same = led ∙ ap (λ (k : Ask ShiftAnswer). put_near n a (near words (actions_after n.actions k) y)) its;
        fits = record { machine = fits there g.0 busy; work = g.0; seen = same; undecided = none };
      };
      led = subst (λ (m : OwnTurnState). OwnTurnLed seen (likeness (shift_machine there.step there.mover) (Some (guard.Shifts there)) seen None) m) (sym (shift_stays (record here { shift = there }) (shift_next_ask n.shape t 0) under))
          (shift_on seen (record here { shift = there }) refl (shift_later n.shape t.step t.mover 0) asks);
    })
shifts_on n a y seen o t words (Take slot) h later g same none fits led = absurd g
shifts_on n a y seen o t words ask h later g same none fits led =
    let here : OwnTurnState = record o { shift = t; step = Shifts } in
    let busy : is_idle (guard.Shifts t) ≡ false = ap is_idle (sym g.0) ∙ g.1 in
    slotless n a seen here words (own_turn_ask n.shape here) (likeness (shift_machine t.step t.mover) (Some (guard.Shifts t)) seen None) (passed_slot {B = Unit {0}} (shift_ask t) tt ∙ ap is_of_slot (sym (h refl))) (record {
      actor = y;
      same = led ∙ ap (λ (k : Ask ShiftAnswer). put_near n a (near words (actions_after n.actions k) y)) (sym (h refl));
      fits = record { machine = fits t g.0 busy; work = g.0; seen = same; undecided = none };
    }) (shift_on seen here refl later (ap is_done (sym (h refl))))

pub work_is : (t : ShiftState) (work : Work) → shift_rests t.step ≡ false → FitsWork (shift_work t) work → work ≡ guard.Shifts t
work_is t work busy fits = subst (λ b. FitsWork (if b then None else Some (guard.Shifts t)) work) busy fits

pub shifts_it : (w : GuardWorld) (a : ℕ) (x : Actor) (seen : LastSeen) (o : OwnTurnState) → IsSound w → slice_get w.now.actors a ≡ Some x → is_done (shift_ask o.shift) ≡ false → Fits (own_turn_likeness_at seen o Shifts) x
    → (let here : OwnTurnState = record o { step = Shifts } in let reply : ℕ = reply_to w.now.words (shift_ask o.shift) in
    TurnMoved w.now a seen (own_turn_next w.now.shape here reply) (words_after w.now.words (shift_ask o.shift)) (own_turn_ask w.now.shape (own_turn_next w.now.shape here reply)))
unfolding own_turning_next
shifts_it w a x seen o sound got asks fits =
    let n : GuardNow = w.now in
    let reply : ℕ = reply_to n.words (shift_ask o.shift) in
    let here : GuardNear = guard.shifted n x o.shift in
    let busy : is_idle (guard.Shifts o.shift) ≡ false = shift_asking o.shift.step o.shift.mover asks in
    let its : x.work ≡ guard.Shifts o.shift = work_is o.shift x.work busy fits.work in
    let led : runs_now n (Moves a ∷ []) ≡ put_near n a here = moves_work n a x got (guard.Shifts o.shift) its busy in
    shifts_on n a here.actor seen o (shift_next n.shape o.shift reply) (words_after n.words (shift_ask o.shift)) (shift_next_ask n.shape o.shift reply)
    (shift_goes_on n.shape o.shift reply) (shift_later n.shape o.shift.step o.shift.mover reply) (shift_goes w a x o.shift sound got its busy) fits.seen fits.undecided
    (λ there same under. shift_fits (levels_of here.words) here.actor.machine there.step there.mover
    (subst (λ (work : Work). Knows n.shape (levels_of here.words) (Awake (put_near n a here) a here.actor.machine) here.actor.machine here.actor.undecided work) same (known_after w a x (Moves a) here sound got led)) under)
    led

-- a turn that opens only goes on to one of these
abbrev IsNext : Turning → Type 0
IsNext turn.AtRest = ⊤
IsNext (turn.LoadsClosed OpensOnly limit) = ⊤
IsNext (turn.RaisesLimit limit) = ⊤
IsNext step = ⊥

opens_next : (shape : Shape) (step : Turning) (m : Mover) (reply : ℕ) → IsOpening step → IsNext (turning_next shape step m reply).step
unfolding turning_next
opens_next shape (turn.LoadsLimit OpensOnly tail) m reply opening = elim (truth (nat_lt (reply / shape.page) (pages_wanted shape tail))) [ inl e ↦ rw e tt | inr e ↦ rw e tt ]
opens_next shape (turn.LoadsClosed OpensOnly limit) m reply opening = elim (truth (nat_le (frame_end shape limit) reply)) [ inl e ↦ rw e tt | inr e ↦ rw e tt ]
opens_next shape (turn.RaisesLimit limit) m reply opening = tt
opens_next shape step m reply opening = absurd opening

same_mover : (shape : Shape) (step : Turning) (m : Mover) (reply : ℕ) → IsOpening step → turning_next shape step m reply ≡ turn_at (turning_next shape step m reply).step m
unfolding turning_next
same_mover shape (turn.LoadsLimit OpensOnly tail) m reply opening = refl
same_mover shape (turn.LoadsClosed OpensOnly limit) m reply opening = refl
same_mover shape (turn.RaisesLimit limit) m reply opening = refl
same_mover shape step m reply opening = absurd opening

asks_next : (shape : Shape) (step : Turning) (m : Mover) (reply : ℕ) → IsOpening step → turning_next_ask shape step m reply ≡ turn_ask shape (turning_next shape step m reply)
unfolding turning_next_ask
asks_next shape (turn.LoadsLimit OpensOnly tail) m reply opening = refl
asks_next shape (turn.LoadsClosed OpensOnly limit) m reply opening = refl
asks_next shape (turn.RaisesLimit limit) m reply opening = refl
asks_next shape step m reply opening = absurd opening

pub opening_busy : (step : Turning) (m : Mover) → IsOpening step → is_idle (guard.Turns (turn_at step m)) ≡ false
opening_busy (turn.LoadsLimit OpensOnly tail) m opening = refl
opening_busy (turn.LoadsClosed OpensOnly limit) m opening = refl
opening_busy (turn.RaisesLimit limit) m opening = refl
opening_busy step m opening = absurd opening

-- the page's turn, by where it leads
opens_to : (n : GuardNow) (a : ℕ) (x : Actor) (seen : LastSeen) (o : OwnTurnState) (was : TurnState) (there : Turning) → was.mover ≡ move_at_rest → IsNext there → is_at_rest x.machine ≡ true → x.seen ≡ seen → x.undecided ≡ None
    → runs_now n (Moves a ∷ []) ≡ put_near n a (host_to n x (turn_ask n.shape) (turn_next n.shape) (λ (t : TurnState). t.mover) guard.Turns was (turn_at there move_at_rest))
    → (let after : OwnTurnState = open_ledto (record o { turn = turn_at there move_at_rest; step = Opens }) (turn_ask n.shape (turn_at there move_at_rest)) in TurnMoved n a seen after (words_after n.words (turn_ask n.shape was)) (own_turn_ask n.shape after))
unfolding open_ledto own_turning_ask turning_ask passed
opens_to n a x seen o was turn.AtRest none next rests same undecided led = record {
  mid = through seen;
  moved = record { actor = record x { machine = inner_machine x.machine was.mover.step move_at_rest; work = guard.Turns (turn_at turn.AtRest move_at_rest) }; same = led; fits = record { machine = rw none rests; work = refl; seen = same; undecided = undecided } };
  led = record { leads = Keeps refl refl; knows = tt };
}
opens_to n a x seen o was (turn.LoadsClosed OpensOnly limit) none next rests same undecided led = record {
  mid = likeness None (Some (guard.Turns (turn_at (turn.LoadsClosed OpensOnly limit) move_at_rest))) seen None;
  moved = record { actor = record x { machine = inner_machine x.machine was.mover.step move_at_rest; work = guard.Turns (turn_at (turn.LoadsClosed OpensOnly limit) move_at_rest) }; same = led; fits = record { machine = rw none rests; work = refl; seen = same; undecided = undecided } };
  led = record { leads = Keeps refl refl; knows = (refl, tt) };
}
opens_to n a x seen o was (turn.RaisesLimit limit) none next rests same undecided led = record {
  mid = likeness None (Some (guard.Turns (turn_at (turn.RaisesLimit limit) move_at_rest))) seen None;
  moved = record { actor = record x { machine = inner_machine x.machine was.mover.step move_at_rest; work = guard.Turns (turn_at (turn.RaisesLimit limit) move_at_rest) }; same = led; fits = record { machine = rw none rests; work = refl; seen = same; undecided = undecided } };
  led = record { leads = Keeps refl refl; knows = (refl, tt) };
}
opens_to n a x seen o was there none next rests same undecided led = absurd next

pub turn_is : (t : TurnState) (work : Work) → turn_rests t.step ≡ false → FitsWork (turn_work t) work → work ≡ guard.Turns t
turn_is t work busy fits = subst (λ b. FitsWork (if b then None else Some (guard.Turns t)) work) busy fits

pub opens_it : (n : GuardNow) (a : ℕ) (x : Actor) (seen : LastSeen) (o : OwnTurnState) → slice_get n.actors a ≡ Some x → o.turn.mover ≡ move_at_rest → IsOpening o.turn.step → Fits (own_turn_likeness_at seen o Opens) x
    → (let here : OwnTurnState = record o { step = Opens } in let reply : ℕ = reply_to n.words (turn_ask n.shape o.turn) in
    TurnMoved n a seen (own_turn_next n.shape here reply) (words_after n.words (turn_ask n.shape o.turn)) (own_turn_ask n.shape (own_turn_next n.shape here reply)))
unfolding own_turning_next
opens_it n a x seen o got none opening fits =
    let t : TurnState = o.turn in
    let reply : ℕ = reply_to n.words (turn_ask n.shape t) in
    let busy : is_idle (guard.Turns t) ≡ false = opening_busy t.step t.mover opening in
    let led = moves_work n a x got (guard.Turns t) (turn_is t x.work busy fits.work) busy in
    let next : Turning = (turning_next n.shape t.step t.mover reply).step in
    let there : turning_next n.shape t.step t.mover reply ≡ turn_at next move_at_rest = same_mover n.shape t.step t.mover reply opening ∙ ap (turn_at next) none in
    let to = opens_to n a x seen o t next none (opens_next n.shape t.step t.mover reply opening) fits.machine fits.seen fits.undecided
    (led ∙ ap (λ (s : TurnState). put_near n a (host_to n x (turn_ask n.shape) (turn_next n.shape) (λ (t : TurnState). t.mover) guard.Turns t s)) there) in
    subst (λ (ask : Ask MoveAnswer). (let after : OwnTurnState = open_ledto (record o { turn = turn_next n.shape t reply; step = Opens }) ask in TurnMoved n a seen after (words_after n.words (turn_ask n.shape t)) (own_turn_ask n.shape after))) (sym (asks_next n.shape t.step t.mover reply opening))
    (subst (λ (s : TurnState). (let after : OwnTurnState = open_ledto (record o { turn = s; step = Opens }) (turn_ask n.shape s) in TurnMoved n a seen after (words_after n.words (turn_ask n.shape t)) (own_turn_ask n.shape after))) (sym there) to)
