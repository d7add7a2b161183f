-- One step of a session's own turn: the guard's events, where they lead with the action that goes with the step, and what is known then.
use Rattle.std.proofs.Common.{◌≡◌, ◌≢◌, ℕ, ◌<◌, List, [], ◌∷◌, ◌++◌, refl, sym, ap, subst, arith, true, false}
use Rattle.std.specs.Prelude.{Option, Some, None, slice_get}
use Rattle.fkv_plane.specs.declared.actions.Action.{Action}
use Rattle.fkv_plane.specs.declared.asks.Ask.{Ask}
use Rattle.fkv_plane.specs.declared.asks.Ask.TheVariants.{Load, Cas, Max, Put, Take, Done}
use Rattle.fkv_plane.specs.declared.places.SessionWord.TheVariants as own
use Rattle.fkv_plane.specs.Places.{session_place}
use Rattle.fkv_plane.specs.Plane.{action_at}
use Rattle.fkv_plane.specs.Asked.{words_after, reply_to}
use Rattle.fkv_plane.specs.Passing.{passed, is_done}
use Rattle.fkv_plane.proofs.Shown.{passed_words, passed_reply}
use Rattle.fkv_flush.specs.GuardSeen.{LastSeen}
use Rattle.fkv_flush.specs.GuardLevels.{levels_of}
use Rattle.fkv_flush.specs.GuardWorld as guard
use Rattle.fkv_flush.specs.GuardWorld.{Actor, Work, GuardNow, GuardWorld, GuardEvent, Moves}
use Rattle.fkv_flush.proofs.Shown.{IsSound, Knows, Awake, MoveKnows, ShiftKnows, Likeness, Fits, Follows}
use Rattle.fkv_session.specs.declared.answers.Told.{Told}
use Rattle.fkv_session.specs.declared.own_turns.OwnTurning.{OwnTurning}
use Rattle.fkv_session.specs.declared.own_turns.OwnTurning.TheVariants.{Ended, Scans, Claims, Shifts, Opens}
use Rattle.fkv_session.specs.declared.sessions.Sitting.TheVariants.{Turns}
use Rattle.fkv_session.specs.OwnTurns.{OwnTurnState, own_turning_ask, own_turn_ask, own_turn_next}
use Rattle.fkv_session.specs.Sessions.{SessionState, Seat, turn_ledto, sitting_ask, sitting_next, session_ask, session_next, sitting_given, asks_after, is_word_ask}
use Rattle.fkv_epoch.specs.Scanning.{scan_ask}
use Rattle.fkv_epoch.specs.Claiming.{claim_ask, claim_next}
use Rattle.fkv_log.specs.Shifting.{shift_ask, shifting_ask}
use Rattle.fkv_log.specs.Turning.{turn_ask}
use Rattle.fkv_epoch.specs.declared.claiming.Claiming.{Claiming}
use Rattle.fkv_epoch.specs.declared.claiming.Claiming.TheVariants as claim
use Rattle.fkv_epoch.specs.declared.raising.Raising.{Raising}
use Rattle.fkv_epoch.specs.declared.arming.Arming.{Arming}
use Rattle.fkv_epoch.specs.declared.arming.Arming.TheVariants as arm
use Rattle.fkv_epoch.specs.Raising.{raise_ask}
use Rattle.fkv_epoch.specs.Arming.{arm_ask}
use Rattle.fkv_epoch.specs.EpochWorld as epochs
use Rattle.fkv_epoch.specs.EpochWorld.{claimed, received, own_epoch}
use Rattle.fkv_log.specs.declared.moving.MoveAnswer.{MoveAnswer}
use Rattle.fkv_log.specs.declared.moving.MoveAnswer.TheVariants as moved
use Rattle.fkv_log.specs.declared.moving.Moving.{Moving}
use Rattle.fkv_log.specs.declared.moving.Moving.TheVariants as move
use Rattle.fkv_log.specs.declared.moving.Offset.{Offset}
use Rattle.fkv_log.specs.declared.moving.Offset.TheVariants.{ReadOnly, Head}
use Rattle.fkv_log.specs.declared.shifting.ShiftAnswer.{ShiftAnswer}
use Rattle.fkv_log.specs.declared.shifting.ShiftAnswer.TheVariants as shifted
use Rattle.fkv_log.specs.declared.shifting.Shifting.{Shifting}
use Rattle.fkv_log.specs.declared.shifting.Shifting.TheVariants as shift
use Rattle.fkv_log.specs.declared.turning.TurnForm.TheVariants.{OpensOnly}
use Rattle.fkv_log.specs.declared.turning.Turning.{Turning}
use Rattle.fkv_log.specs.declared.turning.Turning.TheVariants as turn
use Rattle.fkv_log.specs.Moving.{Mover, offset_place, moving_ask, move_ask}
use Rattle.fkv_log.specs.Turning.{turning_ask, limit_after}
use Rattle.fkv_world.specs.Moves.{session_gets}
use Rattle.law_world.specs.GuardSessions.Steps.{onward_events}
use Rattle.law_world.specs.GuardSessions.Followed.{TurnsFollow, SessionFollows, seat_in}
use Rattle.law_world.specs.GuardSessions.Likenesses.{last_seen}
use Rattle.law_world.specs.GuardSessions.OwnTurns.{own_turn_likeness, own_turn_likeness_at, turn_gets, turn_settled}
use Rattle.law_world.specs.GuardKeeper.Settled.{actions_settled}
use Rattle.law_world.specs.GuardSessions.Sessions.{sitting_events, sitting_onward, sitting_likeness, session_likeness, is_protected_at, session_settled}
use Rattle.law_world.proofs.OfGuardSessions.Onwards.{Keeps, goes_onward}
use Rattle.law_world.proofs.OfGuardSessions.Epochs.{machine_keeps, ask_keeps}
use Rattle.law_world.proofs.OfGuardSessions.OwnTurnsLed.{OwnTurnLed, shift_asking, own_turn_through}
use Rattle.law_world.proofs.OfGuardSessions.OwnTurns.{TurnMoved, scanning_is, claiming_is, work_is, scans_it, claims_it, shifts_it, opens_it}
use Rattle.law_world.specs.GuardSessions.Rows.{IsOpening, OwnTurnKnows, SittingKnows}
use Rattle.law_world.proofs.OfGuardSessions.SessionsLed.{SessionLed}

module _ (w : GuardWorld) (a : ℕ) (x : Actor) (seen : LastSeen) (sound : IsSound w) (got : slice_get w.now.actors a ≡ Some x) where
  abbrev TurnTo : OwnTurnState → OwnTurning → Type 0
  TurnTo o step =
      (let here : OwnTurnState = record o { step = step } in
      let after : OwnTurnState = own_turn_next w.now.shape here (reply_to w.now.words (own_turning_ask w.now.shape o step)) in
      TurnMoved w.now a seen after (words_after w.now.words (own_turning_ask w.now.shape o step)) (own_turn_ask w.now.shape after))

  -- each part of a turn
  turn_moves : (o : OwnTurnState) (step : OwnTurning) → (step ≡ Ended → ⊥) → OwnTurnKnows o step → Fits (own_turn_likeness_at seen o step) x → TurnTo o step
  unfolding own_turning_ask
  turn_moves o Ended under knows fits = absurd (under refl)
  turn_moves o Scans under knows fits =
      rw (passed_words {B = Unit {0}} w.now.words (scan_ask o.scanning) tt, passed_reply {B = Unit {0}} w.now.words (scan_ask o.scanning) tt) (scans_it w.now a x seen got o sound.fits.sessions knows fits)
  turn_moves o Claims under knows fits =
      rw (passed_words {B = Unit {0}} w.now.words (claim_ask o.claiming) tt, passed_reply {B = Unit {0}} w.now.words (claim_ask o.claiming) tt) (claims_it w.now a x seen got o knows fits)
  turn_moves o Shifts under knows fits =
      rw (passed_words {B = Unit {0}} w.now.words (shift_ask o.shift) tt, passed_reply {B = Unit {0}} w.now.words (shift_ask o.shift) tt) (shifts_it w a x seen o sound got knows fits)
  turn_moves o Opens under knows fits =
      rw (passed_words {B = Unit {0}} w.now.words (turn_ask w.now.shape o.turn) tt, passed_reply {B = Unit {0}} w.now.words (turn_ask w.now.shape o.turn) tt) (opens_it w.now a x seen o got knows.0 knows.1 fits)

-- where the turn has come to its session has
pub turn_led : (k : Seat) (mid : Likeness) (s : SessionState) (its : Told) (ask : Ask (Unit {0})) → own_turn_ask k.shape s.own_turn ≡ ask → OwnTurnLed (last_seen s.seen) mid s.own_turn → SessionLed true mid (turn_ledto (record s { step = Turns its }) its ask)
unfolding turn_ledto
turn_led k mid s its (Done told) asks led =
    let ended = own_turn_through k.shape (last_seen s.seen) mid s.own_turn s.own_turn.step told led.knows asks led.leads in
    record { leads = Keeps refl ended; knows = tt }
turn_led k mid s its ask asks led = record { leads = led.leads; knows = led.knows }

-- what goes with the step
settles : (n : GuardNow) (number : ℕ) (mid : Likeness) (s : SessionState) (its : Told) (ask : Ask (Unit {0})) → own_turn_ask n.shape s.own_turn ≡ ask → OwnTurnLed (last_seen s.seen) mid (turn_settled n.shape n.actions s.own_turn ask)
    → (let k : Seat = seat_in n number in let after : SessionState = turn_ledto (record s { step = Turns its }) its ask in
    SessionLed true mid (session_settled k n.actions after (session_ask k after)))
unfolding turn_ledto sitting_ask sitting_next sitting_given passed
settles n number mid s its (Done told) asks led = turn_led (seat_in n number) mid s its (Done told) asks led
settles n number mid s its (Put slot action) asks led =
    rw asks (turn_led (seat_in n number) mid (record s { own_turn = own_turn_next n.shape s.own_turn 0; asks = asks_after s.asks (is_word_ask (passed (own_turn_ask n.shape s.own_turn) its)); effect = None }) its (own_turn_ask n.shape (own_turn_next n.shape s.own_turn 0)) refl led)
settles n number mid s its (Take slot) asks led = rw asks (by_found (action_at n.actions slot) led)
  where
    by_found : (found : Option Action) → OwnTurnLed (last_seen s.seen) mid (turn_gets s.own_turn found) → SessionLed true mid (session_gets (seat_in n number) (record s { step = Turns its }) found)
    by_found None l = record { leads = l.leads; knows = l.knows }
    by_found (Some action) l = turn_led (seat_in n number) mid (record s { own_turn = turn_gets s.own_turn (Some action) }) its (own_turn_ask n.shape (turn_gets s.own_turn (Some action))) refl l
settles n number mid s its ask asks led = rw asks (record { leads = led.leads; knows = led.knows })

same_actions : (n : GuardNow) (number : ℕ) (s : SessionState) (its : Told) (ask : Ask (Unit {0})) → own_turn_ask n.shape s.own_turn ≡ ask
    → actions_settled n.actions ask ≡ actions_settled n.actions (session_ask (seat_in n number) (turn_ledto (record s { step = Turns its }) its ask))
unfolding turn_ledto sitting_ask passed
same_actions n number s its (Done told) asks = refl
same_actions n number s its (Put slot action) asks = rw asks refl
same_actions n number s its (Take slot) asks = rw asks refl
same_actions n number s its ask asks = rw asks refl

received_words : (words : List ℕ) (actions : List (Option Action)) (slot epoch safe : ℕ) (found : Option Action) → (received words actions slot epoch safe found).words ≡ words
received_words words actions slot epoch safe None = refl
received_words words actions slot epoch safe (Some action) = refl

claimed_words : (words : List ℕ) (actions : List (Option Action)) (next : Claiming) → (claimed words actions next).words ≡ words
claimed_words words actions (claim.Receives slot epoch safe) = received_words words actions slot epoch safe (action_at actions slot)
claimed_words words actions next = refl

-- a turn leaves its session's epoch word as it is
module _ (w : GuardWorld) (number : ℕ) (x : Actor) (sound : IsSound w) (got : slice_get w.now.actors number ≡ Some x) (below : number < w.now.places.sessions) (some : 0 < own_epoch w.now.words number) where
  abbrev KeepsWord : {A : Type 0} → Ask A → Type 0
  KeepsWord ask = 0 < own_epoch (words_after w.now.words ask) number

  move_keeps : (step : Moving) (raising : Raising) (arming : Arming) → MoveKnows (levels_of w.now.words) x.machine step raising arming → KeepsWord (moving_ask step raising arming)
  unfolding moving_ask
  move_keeps move.AtRest raising arming knows = absurd knows
  move_keeps (move.Raises target) raising arming knows = rw (passed_words {B = MoveAnswer} w.now.words (raise_ask raising) moved.Through) (machine_keeps w number x (epochs.Raises raising) sound got knows.0 below (λ e. cc) some)
  move_keeps (move.MovesOffset target) raising arming knows = ask_keeps {A = MoveAnswer} w.now.words number (Max (offset_place target.offset) target.to) (by_offset target.offset) some
    where
      by_offset : (offset : Offset) → session_place number own.Epoch ≢ offset_place offset
      by_offset ReadOnly = λ same. omega (arith, same)
      by_offset Head = λ same. omega (arith, same)
  move_keeps (move.Puts target slot) raising arming knows = some
  move_keeps move.Arms raising arm.AtRest knows = absurd knows
  move_keeps move.Arms raising (arm.PutsAction slot epoch) knows = absurd knows
  move_keeps move.Arms raising (arm.StoresEpoch slot epoch) knows = rw (passed_words {B = MoveAnswer} w.now.words (arm_ask (arm.StoresEpoch slot epoch)) moved.Through) (machine_keeps w number x (epochs.Arms (arm.StoresEpoch slot epoch)) sound got knows below (λ e. cc) some)

  shift_keeps : (step : Shifting) (m : Mover) → ShiftKnows (levels_of w.now.words) x.machine step m → KeepsWord (shifting_ask step m)
  unfolding shifting_ask
  shift_keeps shift.AtRest m knows = some
  shift_keeps shift.LoadsTail m knows = ask_keeps {A = ShiftAnswer} w.now.words number (Load 3) tt some
  shift_keeps (shift.LoadsReadOnly tail) m knows = ask_keeps {A = ShiftAnswer} w.now.words number (Load 5) tt some
  shift_keeps (shift.Moves tail) m knows = rw (passed_words {B = ShiftAnswer} w.now.words (move_ask m) (shifted.Through (record { 0 = tail }))) (move_keeps m.step m.raising m.arming knows)

  open_keeps : (step : Turning) (m : Mover) → IsOpening step → KeepsWord (turning_ask w.now.shape step m)
  unfolding turning_ask
  open_keeps (turn.LoadsLimit OpensOnly tail) m opening = ask_keeps {A = MoveAnswer} w.now.words number (Load 4) tt some
  open_keeps (turn.LoadsClosed OpensOnly limit) m opening = ask_keeps {A = MoveAnswer} w.now.words number (Load 9) tt some
  open_keeps (turn.RaisesLimit limit) m opening = ask_keeps {A = MoveAnswer} w.now.words number (Cas 4 limit (limit_after w.now.shape limit)) (λ same. omega (arith, same)) some
  open_keeps step m opening = absurd opening

  pub turn_keeps : (seen : LastSeen) (o : OwnTurnState) (step : OwnTurning) → OwnTurnKnows o step → Fits (own_turn_likeness_at seen o step) x → KeepsWord (own_turning_ask w.now.shape o step)
  unfolding own_turning_ask
  turn_keeps seen o Ended knows fits = some
  turn_keeps seen o Scans knows fits =
      rw (passed_words {B = Unit {0}} w.now.words (scan_ask o.scanning) tt) (machine_keeps w number x (epochs.Scans o.scanning) sound got (scanning_is o.scanning x.machine knows fits.machine) below (λ e. cc) some)
  turn_keeps seen o Claims knows fits =
      rw (passed_words {B = Unit {0}} w.now.words (claim_ask o.claiming) tt)
      (subst (λ words. 0 < own_epoch words number) (claimed_words (words_after w.now.words (claim_ask o.claiming)) w.now.actions (claim_next o.claiming (reply_to w.now.words (claim_ask o.claiming))))
      (machine_keeps w number x (epochs.Claims o.claiming) sound got (claiming_is o.claiming x.machine knows fits.machine) below (λ e. cc) some))
  turn_keeps seen o Shifts knows fits =
      let its : x.work ≡ guard.Shifts o.shift = work_is o.shift x.work (shift_asking o.shift.step o.shift.mover knows) fits.work in
      let known : ShiftKnows (levels_of w.now.words) x.machine o.shift.step o.shift.mover =
      subst (λ (work : Work). Knows w.now.shape (levels_of w.now.words) (Awake w.now number x.machine) x.machine x.undecided work) its (sound.knows number x got) in
      rw (passed_words {B = Unit {0}} w.now.words (shift_ask o.shift) tt) (shift_keeps o.shift.step o.shift.mover known)
  turn_keeps seen o Opens knows fits = rw (passed_words {B = Unit {0}} w.now.words (turn_ask w.now.shape o.turn) tt) (open_keeps o.turn.step o.turn.mover knows.1)

-- A step of a session that turns, and has not ended its turn.
turns : (w : GuardWorld) (number : ℕ) (x : Actor) (s : SessionState) (its : Told) (asks : ℕ) → IsSound w → slice_get w.now.actors number ≡ Some x → number < w.now.places.sessions → (s.own_turn.step ≡ Ended → ⊥) → OwnTurnKnows s.own_turn s.own_turn.step
    → 0 < own_epoch w.now.words number → Fits (own_turn_likeness (last_seen s.seen) s.own_turn) x
    → (let n : GuardNow = w.now in
    let k : Seat = seat_in n number in
    let ask : Ask Told = passed (own_turn_ask n.shape s.own_turn) its in
    let first : SessionState = sitting_next k (record s { asks = asks; effect = None; step = Turns its }) (Turns its) (reply_to n.words ask) in
    let final : SessionState = session_settled k n.actions first (session_ask k first) in
    SessionFollows n number (onward_events number (sitting_onward final final.step) ++ Moves number ∷ []) final (words_after n.words ask) (actions_settled n.actions (session_ask k first)))
unfolding sitting_next
turns w number x s its asks sound got below under knows some fits =
    let n : GuardNow = w.now in
    let k : Seat = seat_in n number in
    let inner : Ask (Unit {0}) = own_turn_ask n.shape s.own_turn in
    let reply : ℕ = reply_to n.words inner in
    let seen : LastSeen = last_seen s.seen in
    let to = turn_moves w number x seen sound got s.own_turn s.own_turn.step under knows fits in
    let o : OwnTurnState = own_turn_next n.shape s.own_turn reply in
    let base : SessionState = record s { asks = asks; effect = None; own_turn = o } in
    let kept : 0 < own_epoch (words_after n.words inner) number = turn_keeps w number x sound got below some seen s.own_turn s.own_turn.step knows fits in
    let first : SessionState = turn_ledto (record base { step = Turns its }) its (own_turn_ask n.shape o) in
    let final : SessionState = session_settled k n.actions first (session_ask k first) in
    let led = settles n number to.mid base its (own_turn_ask n.shape o) refl to.led in
    let same = same_actions n number base its (own_turn_ask n.shape o) refl in
    let moved : Follows n number (Moves number ∷ []) to.mid (words_after n.words inner) (actions_settled n.actions (session_ask k first)) = subst (λ actions. Follows n number (Moves number ∷ []) to.mid (words_after n.words inner) actions) same to.moved in
    rw (passed_words n.words inner its, passed_reply n.words inner its) (record {
      follows = goes_onward true n number x (Moves number ∷ []) to.mid (sitting_onward final final.step) (session_likeness final) (words_after n.words inner) (actions_settled n.actions (session_ask k first)) got (record { below = below; epoch = λ e. kept }) moved led.leads;
      knows = led.knows;
      protected = λ p. kept;
    })

not_ended : (k : Seat) (o : OwnTurnState) (step : OwnTurning) (its : Told) → is_done (passed (own_turning_ask k.shape o step) its) ≡ false → step ≡ Ended → ⊥
unfolding own_turning_ask passed
not_ended k o Ended its asks e = cc
not_ended k o Scans its asks e = cc
not_ended k o Claims its asks e = cc
not_ended k o Shifts its asks e = cc
not_ended k o Opens its asks e = cc

pub turn_follows : TurnsFollow
unfolding sitting_ask
turn_follows w number x s its sits at asks =
    let k : Seat = seat_in w.now number in
    let knows : OwnTurnKnows s.own_turn s.own_turn.step = subst (λ t. SittingKnows s t) at sits.knows in
    let fits : Fits (own_turn_likeness (last_seen s.seen) s.own_turn) x = subst (λ t. Fits (sitting_likeness s t) x) at sits.fits in
    let some : 0 < own_epoch w.now.words number = sits.protected (ap (is_protected_at s) at) in
    let ask : Ask Told = passed (own_turn_ask w.now.shape s.own_turn) its in
    let going : is_done ask ≡ false = subst (λ t. is_done (sitting_ask k s t) ≡ false) at asks in
    subst (λ t.
    (let it : SessionState = record s { step = t } in
    let first : SessionState = session_next k it (reply_to w.now.words (session_ask k it)) in
    let after : SessionState = session_settled k w.now.actions first (session_ask k first) in
    SessionFollows w.now number (onward_events number (sitting_onward after after.step) ++ sitting_events k w.now.words it it.step (session_ask k it)) after (words_after w.now.words (session_ask k it)) (actions_settled w.now.actions (session_ask k first)))) (sym at)
    (turns w number x s its (asks_after s.asks (is_word_ask ask)) sits.sound sits.got sits.below (not_ended k s.own_turn s.own_turn.step its going) knows some fits)
