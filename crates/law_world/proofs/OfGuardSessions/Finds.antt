-- What a session finds in the drain slot that it turns to: where it gives an action to one, this is empty, and where it takes the action of one, there is one.
use Rattle.std.proofs.Common.{◌≡◌, ℕ, ◌∙◌, List, refl, sym, ap, subst, false}
use Rattle.std.specs.Prelude.{Option, Some, None, slice_get}
use Rattle.fkv_base.specs.declared.shapes.Shape.{Shape}
use Rattle.fkv_plane.specs.declared.actions.Action.{Action}
use Rattle.fkv_plane.specs.declared.asks.Ask.{Ask}
use Rattle.fkv_plane.specs.declared.asks.Ask.TheVariants.{Take, Done}
use Rattle.fkv_plane.specs.Asked.{reply_to}
use Rattle.fkv_plane.specs.Passing.{passed, is_done}
use Rattle.fkv_plane.specs.Plane.{action_at}
use Rattle.fkv_plane.proofs.Shown.{passed_reply}
use Rattle.fkv_epoch.specs.declared.claiming.Claiming.{Claiming}
use Rattle.fkv_epoch.specs.declared.scanning.Scanning.{Scanning}
use Rattle.fkv_epoch.specs.Claiming.{claim_ask, claim_next}
use Rattle.fkv_epoch.specs.Scanning.{scan_ask, scan_next}
use Rattle.fkv_log.specs.declared.moving.MoveAnswer.{MoveAnswer}
use Rattle.fkv_log.specs.declared.shifting.ShiftAnswer.{ShiftAnswer}
use Rattle.fkv_log.specs.Shifting.{ShiftState, shifting_ask, shift_ask, shift_next, shift_next_ask}
use Rattle.fkv_log.specs.Turning.{TurnState, turning_ask, turn_ask, turn_next, turn_next_ask}
use Rattle.fkv_session.specs.declared.answers.Told.{Told}
use Rattle.fkv_session.specs.declared.own_turns.OwnTurning.{OwnTurning}
use Rattle.fkv_session.specs.declared.own_turns.OwnTurning.TheVariants.{Ended, Scans, Claims, Shifts, Opens}
use Rattle.fkv_session.specs.declared.sessions.Sitting.{Sitting}
use Rattle.fkv_session.specs.declared.sessions.Sitting.TheVariants.{Turns}
use Rattle.fkv_session.specs.OwnTurns.{OwnTurnState, own_turning_ask, own_turn_ask, own_turning_next, own_turn_next, scan_ledto, claim_ledto, shift_ledto, open_ledto}
use Rattle.fkv_session.specs.Sessions.{SessionState, Seat, asks_after, is_word_ask, sitting_ask, sitting_next, session_ask, session_next, turn_ledto}
use Rattle.fkv_flush.specs.GuardSeen.{LastSeen}
use Rattle.fkv_flush.specs.GuardWorld as guard
use Rattle.fkv_flush.specs.GuardWorld.{Actor, GuardWorld, is_idle}
use Rattle.fkv_flush.proofs.Shown.{IsSound, Fits}
use Rattle.fkv_world.specs.Actors.{slot_asked}
use Rattle.fkv_world.specs.Moves.{session_gets}
use Rattle.law_world.specs.GuardSessions.Followed.{Sits, seat_in, is_turning}
use Rattle.law_world.specs.GuardSessions.Likenesses.{last_seen}
use Rattle.law_world.specs.GuardSessions.OwnTurns.{own_turn_likeness_at}
use Rattle.law_world.specs.GuardSessions.Rows.{OwnTurnKnows, SittingKnows}
use Rattle.law_world.specs.GuardSessions.Sessions.{SessionWritesOuter, session_settled, sitting_likeness}
use Rattle.law_world.proofs.OfGuardSessions.NoSlots.{session_slot}
use Rattle.law_world.specs.GuardKeeper.Settled.{is_of_slot}
use Rattle.law_world.proofs.OfGuardSessions.OwnTurns.{scan_behind, work_is, turn_is, opening_busy}
use Rattle.law_world.proofs.OfGuardSessions.OwnTurnsLed.{shift_asking}
use Rattle.law_world.proofs.OfGuardSessions.WorldSteps.{First, Final, Whole, clash, first_slot, sits_on, whole}
use Rattle.law_world.proofs.OfGuardKeeper.Finds.{no_slot}
use Rattle.law_world.proofs.OfGuardKeeper.Puts.{PutsIntoEmpty, claim_puts, passed_puts, puts_none, work_puts_empty}

-- by what the machine inside a session's own turn asks next
claims_put : (actions : List (Option Action)) (shape : Shape) (o : OwnTurnState) (next : Claiming) (ask : Ask (Unit {0})) → PutsIntoEmpty actions (own_turn_ask shape (claim_ledto (record o { claiming = next; step = Claims }) ask))
unfolding claim_ledto own_turning_ask shifting_ask passed
claims_put actions shape o next (Done its) slot e = cc
claims_put actions shape o next ask slot e = passed_puts {B = Unit {0}} actions (claim_ask next) tt (claim_puts actions next) slot e

shifts_put : (actions : List (Option Action)) (shape : Shape) (o : OwnTurnState) (t : ShiftState) (ask : Ask ShiftAnswer) → PutsIntoEmpty actions (shift_ask t) → PutsIntoEmpty actions (own_turn_ask shape (shift_ledto (record o { shift = t; step = Shifts }) ask))
unfolding shift_ledto own_turning_ask turning_ask passed
shifts_put actions shape o t (Done its) empty slot e = cc
shifts_put actions shape o t ask empty slot e = passed_puts {B = Unit {0}} actions (shift_ask t) tt empty slot e

opens_put : (actions : List (Option Action)) (shape : Shape) (o : OwnTurnState) (t : TurnState) (ask : Ask MoveAnswer) → PutsIntoEmpty actions (turn_ask shape t) → PutsIntoEmpty actions (own_turn_ask shape (open_ledto (record o { turn = t; step = Opens }) ask))
unfolding open_ledto own_turning_ask passed
opens_put actions shape o t (Done its) empty slot e = cc
opens_put actions shape o t ask empty slot e = passed_puts {B = Unit {0}} actions (turn_ask shape t) tt empty slot e

module _ (w : GuardWorld) (number : ℕ) (x : Actor) (sound : IsSound w) (got : slice_get w.now.actors number ≡ Some x) where
  own_turn_puts : (seen : LastSeen) (o : OwnTurnState) (step : OwnTurning) (reply : ℕ) → OwnTurnKnows o step → Fits (own_turn_likeness_at seen o step) x → reply ≡ reply_to w.now.words (own_turning_ask w.now.shape o step)
      → PutsIntoEmpty w.now.actions (own_turn_ask w.now.shape (own_turn_next w.now.shape (record o { step = step }) reply))
  unfolding own_turning_next own_turning_ask
  own_turn_puts seen o Ended reply knows fits same slot e = cc
  own_turn_puts seen o Scans reply knows fits same slot e =
      let next : Scanning = scan_next w.now.shape.sessions o.scanning reply in
      puts_none w.now.actions (own_turn_ask w.now.shape (scan_ledto (record o { scanning = next; step = Scans }) (scan_ask next))) (scan_behind w.now.shape o next (scan_ask next)) slot e
  own_turn_puts seen o Claims reply knows fits same slot e = claims_put w.now.actions w.now.shape o (claim_next o.claiming reply) (claim_ask (claim_next o.claiming reply)) slot e
  own_turn_puts seen o Shifts reply knows fits same slot e =
      let busy : is_idle (guard.Shifts o.shift) ≡ false = shift_asking o.shift.step o.shift.mover knows in
      let its : reply ≡ reply_to w.now.words (shift_ask o.shift) = same ∙ passed_reply {B = Unit {0}} w.now.words (shift_ask o.shift) tt in
      let empty : PutsIntoEmpty w.now.actions (shift_ask (shift_next w.now.shape o.shift reply)) =
      subst (λ (r : ℕ). PutsIntoEmpty w.now.actions (shift_ask (shift_next w.now.shape o.shift r))) (sym its) (work_puts_empty w number x (guard.Shifts o.shift) sound got (work_is o.shift x.work busy fits.work) busy) in
      shifts_put w.now.actions w.now.shape o (shift_next w.now.shape o.shift reply) (shift_next_ask w.now.shape o.shift reply) empty slot e
  own_turn_puts seen o Opens reply knows fits same slot e =
      let busy : is_idle (guard.Turns o.turn) ≡ false = opening_busy o.turn.step o.turn.mover knows.1 in
      let its : reply ≡ reply_to w.now.words (turn_ask w.now.shape o.turn) = same ∙ passed_reply {B = Unit {0}} w.now.words (turn_ask w.now.shape o.turn) tt in
      let empty : PutsIntoEmpty w.now.actions (turn_ask w.now.shape (turn_next w.now.shape o.turn reply)) =
      subst (λ (r : ℕ). PutsIntoEmpty w.now.actions (turn_ask w.now.shape (turn_next w.now.shape o.turn r))) (sym its) (work_puts_empty w number x (guard.Turns o.turn) sound got (turn_is o.turn x.work busy fits.work) busy) in
      opens_put w.now.actions w.now.shape o (turn_next w.now.shape o.turn reply) (turn_next_ask w.now.shape o.turn reply) empty slot e

-- a session that turns asks what its turn does
turn_puts : (actions : List (Option Action)) (k : Seat) (s : SessionState) (its : Told) (ask : Ask (Unit {0})) → PutsIntoEmpty actions (own_turn_ask k.shape s.own_turn) → PutsIntoEmpty actions (session_ask k (turn_ledto (record s { step = Turns its }) its ask))
unfolding turn_ledto sitting_ask
turn_puts actions k s its (Done told) empty slot e = cc
turn_puts actions k s its ask empty slot e = passed_puts actions (own_turn_ask k.shape s.own_turn) its empty slot e

turned_puts : (actions : List (Option Action)) (k : Seat) (s : SessionState) (its : Told) (asks reply : ℕ) → PutsIntoEmpty actions (own_turn_ask k.shape (own_turn_next k.shape s.own_turn reply))
    → PutsIntoEmpty actions (session_ask k (sitting_next k (record s { asks = asks; effect = None; step = Turns its }) (Turns its) reply))
unfolding sitting_next
turned_puts actions k s its asks reply empty =
    turn_puts actions k (record s { own_turn = own_turn_next k.shape s.own_turn reply; asks = asks; effect = None }) its (own_turn_ask k.shape (own_turn_next k.shape s.own_turn reply)) empty

turning_puts : (w : GuardWorld) (number : ℕ) (x : Actor) (s : SessionState) (its : Told) → s.step ≡ Turns its → Sits w number x s → PutsIntoEmpty w.now.actions (session_ask (seat_in w.now number) (First w number s))
unfolding sitting_ask
turning_puts w number x s its at sits =
    let k : Seat = seat_in w.now number in
    let ask : Ask Told = passed (own_turn_ask k.shape s.own_turn) its in
    let reply : ℕ = reply_to w.now.words ask in
    let knows : OwnTurnKnows s.own_turn s.own_turn.step = subst (λ (t : Sitting). SittingKnows s t) at sits.knows in
    let fits : Fits (own_turn_likeness_at (last_seen s.seen) s.own_turn s.own_turn.step) x = subst (λ (t : Sitting). Fits (sitting_likeness s t) x) at sits.fits in
    let inner : PutsIntoEmpty w.now.actions (own_turn_ask k.shape (own_turn_next k.shape s.own_turn reply)) =
    own_turn_puts w number x sits.sound sits.got (last_seen s.seen) s.own_turn s.own_turn.step reply knows fits (passed_reply w.now.words (own_turn_ask k.shape s.own_turn) its) in
    subst (λ (t : Sitting).
    (let it : SessionState = record s { step = t } in PutsIntoEmpty w.now.actions (session_ask k (session_next k it (reply_to w.now.words (session_ask k it)))))) (sym at)
    (turned_puts w.now.actions k s its (asks_after s.asks (is_word_ask ask)) reply inner)

by_step : (w : GuardWorld) (number : ℕ) (x : Actor) (s : SessionState) (step : Sitting) → s.step ≡ step → Sits w number x s → SessionWritesOuter (seat_in w.now number) s → PutsIntoEmpty w.now.actions (session_ask (seat_in w.now number) (First w number s))
by_step w number x s (Turns its) at sits owes = turning_puts w number x s its at sits
by_step w number x s step at sits owes =
    puts_none w.now.actions (session_ask (seat_in w.now number) (First w number s)) (first_slot w number x s sits (ap is_turning at) owes)

-- a session that sits in a sound world of the guard stands at no slot
pub session_rests : (w : GuardWorld) (number : ℕ) (x : Actor) (s : SessionState) → Sits w number x s → slot_asked (session_ask (seat_in w.now number) s) ≡ None
session_rests w number x s sits = no_slot (session_ask (seat_in w.now number) s) (session_slot w number x s sits)

-- Where a session gives an action to a slot behind the reply to its ask, the slot is empty.
pub session_puts : (w : GuardWorld) (number : ℕ) (x : Actor) (s : SessionState) → Sits w number x s → SessionWritesOuter (seat_in w.now number) s → PutsIntoEmpty w.now.actions (session_ask (seat_in w.now number) (First w number s))
session_puts w number x s sits owes = by_step w number x s s.step refl sits owes

-- Where it takes the action of one behind that, there is one: else it would stand before the slot.
pub session_takes : (w : GuardWorld) (number : ℕ) (x : Actor) (s : SessionState) (slot : ℕ) → Sits w number x s → SessionWritesOuter (seat_in w.now number) s → is_done (session_ask (seat_in w.now number) s) ≡ false
    → session_ask (seat_in w.now number) (First w number s) ≡ Take slot → (action : Action) × (action_at w.now.actions slot ≡ Some action)
session_takes w number x s slot sits owes asks takes = by_found (action_at w.now.actions slot) refl
  where
    k : Seat
    k = seat_in w.now number

    by_found : (found : Option Action) → action_at w.now.actions slot ≡ found → (action : Action) × (action_at w.now.actions slot ≡ Some action)
    by_found (Some action) e = (action, e)
    by_found None e =
        let f : Whole w number s = whole w number x s s.step refl sits asks owes in
        let rests : is_of_slot (session_ask k (Final w number s)) ≡ false = session_slot _ number f.follows.actor (Final w number s) (sits_on w number x s _ (Final w number s) _ _ sits f) in
        let stays : Final w number s ≡ First w number s =
        ap (λ (ask : Ask Told). session_settled k w.now.actions (First w number s) ask) takes ∙ ap (λ (found : Option Action). session_gets k (First w number s) found) e in
        clash (is_of_slot (session_ask k (First w number s))) (ap is_of_slot takes) (ap (λ (t : SessionState). is_of_slot (session_ask k t)) (sym stays) ∙ rests)
