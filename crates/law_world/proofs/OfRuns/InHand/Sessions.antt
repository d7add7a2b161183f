-- Behind an action that it has put, or been given, a session's call is in hand still.
use Rattle.std.proofs.Common.{◌≡◌, ℕ, ◌∙◌, refl, ap, sym, subst, true, false}
use Rattle.std.specs.Prelude.{Option, Some, None, slice_get}
use Rattle.fkv_base.specs.declared.shapes.Shape.{Shape}
use Rattle.fkv_epoch.specs.declared.leaving.Leaving.{Leaving}
use Rattle.fkv_epoch.specs.declared.leaving.Leaving.TheVariants as leave
use Rattle.fkv_epoch.specs.declared.protecting.Protecting.{Protecting}
use Rattle.fkv_epoch.specs.declared.protecting.Protecting.TheVariants as protect
use Rattle.fkv_epoch.specs.declared.refreshing.Refreshing.{Refreshing}
use Rattle.fkv_epoch.specs.declared.refreshing.Refreshing.TheVariants as refresh
use Rattle.fkv_epoch.specs.Claiming.{claim_ask, claim_given, claim_next}
use Rattle.fkv_epoch.specs.Leaving.{leave_ask, leave_next}
use Rattle.fkv_epoch.specs.Protecting.{protect_ask}
use Rattle.fkv_epoch.specs.Refreshing.{refresh_ask}
use Rattle.fkv_epoch.specs.Scanning.{scan_ask, scan_next}
use Rattle.fkv_log.specs.declared.moving.MoveAnswer.{MoveAnswer}
use Rattle.fkv_log.specs.declared.shifting.ShiftAnswer.{ShiftAnswer}
use Rattle.fkv_log.specs.Shifting.{shift_ask, shift_next, shift_next_ask, shifting_ask}
use Rattle.fkv_log.specs.Turning.{turn_ask, turn_next, turn_next_ask, turning_ask}
use Rattle.fkv_pending.specs.declared.mailing.MailAnswer.{MailAnswer}
use Rattle.fkv_pending.specs.declared.mailing.MailAnswer.TheVariants.{Cleared}
use Rattle.fkv_pending.specs.Mailing.{mail_ask, mail_next}
use Rattle.fkv_plane.specs.declared.actions.Action.{Action}
use Rattle.fkv_plane.specs.declared.asks.Ask.{Ask}
use Rattle.fkv_plane.specs.declared.asks.Ask.TheVariants.{Put, Take, Done}
use Rattle.fkv_plane.specs.declared.places.Places.{Places}
use Rattle.fkv_plane.specs.Asked.{reply_to}
use Rattle.fkv_plane.specs.Passing.{is_done, passed}
use Rattle.fkv_plane.specs.Plane.{action_at}
use Rattle.fkv_plane.proofs.Shown.{passed_done}
use Rattle.fkv_epoch.proofs.Shown.{none_some}
use Rattle.fkv_session.specs.declared.answers.Told.{Told}
use Rattle.fkv_session.specs.declared.answers.Told.TheVariants as told
use Rattle.fkv_session.specs.declared.own_turns.OwnTurning.{OwnTurning}
use Rattle.fkv_session.specs.declared.own_turns.OwnTurning.TheVariants as own
use Rattle.fkv_session.specs.declared.sessions.CatchCause.{CatchCause}
use Rattle.fkv_session.specs.declared.sessions.CatchCause.TheVariants.{Refreshes, Wakes, Shifts}
use Rattle.fkv_session.specs.declared.catching_up.Catching.{Catching}
use Rattle.fkv_session.specs.declared.catching_up.Catching.TheVariants as catch
use Rattle.fkv_session.specs.declared.sessions.Sitting.{Sitting}
use Rattle.fkv_session.specs.declared.sessions.Sitting.TheVariants.{Idle, Attempts, CatchesUp, ClearsMail, Polls, StoresOwing, Turns, StoresCut, Leaves, LoadsDurable}
use Rattle.fkv_session.specs.CatchingUp.{CatchState, catching_ask}
use Rattle.fkv_session.specs.OwnTurns.{OwnTurnState, own_turn_ask, own_turn_given, own_turn_next, own_turning_ask, own_turning_given, own_turning_next, scan_ledto, claim_ledto, shift_ledto, open_ledto}
use Rattle.fkv_session.specs.Sessions.{Seat, SessionState, asks_after, attempt_moved, attempts, catch_ledto, caught, caught_up, clear_ledto, is_busy, is_word_ask, leave_ledto, own_turn_moved, polls_at, session_ask, session_next, sitting_ask, sitting_given, sitting_next, turn_ledto}
use Rattle.fkv_world.specs.Actors.{slot_asked, slot_of_step}
use Rattle.fkv_world.specs.Moves.{Near, session_asks, session_gets, session_replied, session_settled}
use Rattle.law_world.proofs.OfRuns.EffectStays.{IsOff, at_call_off, call_off, poll_off, polls_off}
use Rattle.law_world.proofs.OfRuns.NoSlots.{IsOffSlots, latch_off, mail_off, passed_off}
use Rattle.law_world.proofs.OfRuns.InHand.Asks.{AtSlot, RunsNext, at_more, claim_at, off_at, passed_at, scan_off}
use Rattle.law_world.proofs.OfRuns.InHand.Moved.{ShiftAt, ShiftStays, TurnAt, TurnStays, shift_next_at, turn_next_at}

-- a session's own turn at a step
abbrev OwnStays : Shape → OwnTurnState → OwnTurning → Type 0
OwnStays shape o step = is_done (own_turn_ask shape (own_turning_next shape o step 0)) ≡ false

abbrev OwnRuns : Shape → OwnTurnState → OwnTurning → Type 0
OwnRuns shape o step = (action : Action) → is_done (own_turn_ask shape (own_turning_given o step action)) ≡ false

abbrev OwnAt : Shape → OwnTurnState → OwnTurning → Type 0
OwnAt shape o step = AtSlot (OwnStays shape o step) (OwnRuns shape o step) (own_turning_ask shape o step)

abbrev OwnNow : Shape → OwnTurnState → Type 0
OwnNow shape o = OwnAt shape o o.step

own_there : (shape : Shape) (o : OwnTurnState) (step : OwnTurning) → o.step ≡ step → OwnAt shape o step → OwnNow shape o
own_there shape o step at its = subst (λ (x : OwnTurning). OwnAt shape o x) (sym at) its

own_asks : (shape : Shape) (o : OwnTurnState) (step : OwnTurning) → o.step ≡ step → is_done (own_turning_ask shape o step) ≡ false → is_done (own_turn_ask shape o) ≡ false
own_asks shape o step at asks = ap (λ (x : OwnTurning). is_done (own_turning_ask shape o x)) at ∙ asks

claim_asks_on : (shape : Shape) (o : OwnTurnState) (ask : Ask (Unit {0})) → o.step ≡ own.Claims → claim_ask o.claiming ≡ ask → is_done ask ≡ false → is_done (own_turn_ask shape (claim_ledto o ask)) ≡ false
unfolding claim_ledto own_turning_ask
claim_asks_on shape o (Done its) at same asks = cc
claim_asks_on shape o ask at same asks = own_asks shape o own.Claims at (passed_done (claim_ask o.claiming) tt ∙ (ap is_done same ∙ asks))

shift_asks_on : (shape : Shape) (o : OwnTurnState) (ask : Ask ShiftAnswer) → o.step ≡ own.Shifts → is_done ask ≡ false → is_done (shift_ask o.shift) ≡ false → is_done (own_turn_ask shape (shift_ledto o ask)) ≡ false
unfolding shift_ledto own_turning_ask
shift_asks_on shape o (Done its) at asks after = cc
shift_asks_on shape o ask at asks after = own_asks shape o own.Shifts at (passed_done (shift_ask o.shift) tt ∙ after)

open_asks_on : (shape : Shape) (o : OwnTurnState) (ask : Ask MoveAnswer) → o.step ≡ own.Opens → is_done ask ≡ false → is_done (turn_ask shape o.turn) ≡ false → is_done (own_turn_ask shape (open_ledto o ask)) ≡ false
unfolding open_ledto own_turning_ask
open_asks_on shape o (Done its) at asks after = cc
open_asks_on shape o ask at asks after = own_asks shape o own.Opens at (passed_done (turn_ask shape o.turn) tt ∙ after)

claims_at : (shape : Shape) (o : OwnTurnState) → o.step ≡ own.Claims → OwnAt shape o own.Claims
unfolding own_turning_ask own_turning_given
claims_at shape o at = passed_at (OwnStays shape o own.Claims) (OwnRuns shape o own.Claims) (claim_ask o.claiming) tt
    (at_more (OwnStays shape o own.Claims) (RunsNext o.claiming) (OwnStays shape o own.Claims) (OwnRuns shape o own.Claims) (claim_ask o.claiming) (λ x. x)
    (λ runs action. claim_asks_on shape (record o { claiming = claim_given o.claiming action }) (claim_ask (claim_given o.claiming action)) at refl (runs action)) (claim_at (OwnStays shape o own.Claims) o.claiming))

shifts_at : (shape : Shape) (o : OwnTurnState) → o.step ≡ own.Shifts → ShiftAt shape (OwnRuns shape o own.Shifts) o.shift → OwnAt shape o own.Shifts
unfolding own_turning_ask own_turning_next
shifts_at shape o at its = passed_at (OwnStays shape o own.Shifts) (OwnRuns shape o own.Shifts) (shift_ask o.shift) tt
    (at_more (ShiftStays shape o.shift) (OwnRuns shape o own.Shifts) (OwnStays shape o own.Shifts) (OwnRuns shape o own.Shifts) (shift_ask o.shift)
    (λ stays. shift_asks_on shape (record o { shift = shift_next shape o.shift 0 }) (shift_next_ask shape o.shift 0) at stays.0 stays.1) (λ x. x) its)

opens_at : (shape : Shape) (o : OwnTurnState) → o.step ≡ own.Opens → TurnAt shape (OwnRuns shape o own.Opens) o.turn → OwnAt shape o own.Opens
unfolding own_turning_ask own_turning_next
opens_at shape o at its = passed_at (OwnStays shape o own.Opens) (OwnRuns shape o own.Opens) (turn_ask shape o.turn) tt
    (at_more (TurnStays shape o.turn) (OwnRuns shape o own.Opens) (OwnStays shape o own.Opens) (OwnRuns shape o own.Opens) (turn_ask shape o.turn)
    (λ stays. open_asks_on shape (record o { turn = turn_next shape o.turn 0 }) (turn_next_ask shape o.turn 0) at stays.0 stays.1) (λ x. x) its)

-- by what the machines inside ask next
scanned_at : (shape : Shape) (o : OwnTurnState) (ask : Ask (Unit {0})) → o.step ≡ own.Scans → OwnNow shape (scan_ledto o ask)
unfolding scan_ledto own_turning_ask claim_ask passed
scanned_at shape o (Done its) at = tt
scanned_at shape o ask at = own_there shape o own.Scans at (off_at _ _ (passed (scan_ask o.scanning) tt) (passed_off (scan_ask o.scanning) tt (scan_off o.scanning)))

claimed_at : (shape : Shape) (o : OwnTurnState) (ask : Ask (Unit {0})) → o.step ≡ own.Claims → OwnNow shape (claim_ledto o ask)
unfolding claim_ledto own_turning_ask shifting_ask passed
claimed_at shape o (Done its) at = tt
claimed_at shape o ask at = own_there shape o own.Claims at (claims_at shape o at)

shifted_at : (shape : Shape) (o : OwnTurnState) (ask : Ask ShiftAnswer) → o.step ≡ own.Shifts → ((took : Type 0) → ShiftAt shape took o.shift) → OwnNow shape (shift_ledto o ask)
unfolding shift_ledto own_turning_ask turning_ask passed
shifted_at shape o (Done its) at is = tt
shifted_at shape o ask at is = own_there shape o own.Shifts at (shifts_at shape o at (is (OwnRuns shape o own.Shifts)))

opened_at : (shape : Shape) (o : OwnTurnState) (ask : Ask MoveAnswer) → o.step ≡ own.Opens → ((took : Type 0) → TurnAt shape took o.turn) → OwnNow shape (open_ledto o ask)
unfolding open_ledto own_turning_ask
opened_at shape o (Done its) at is = tt
opened_at shape o ask at is = own_there shape o own.Opens at (opens_at shape o at (is (OwnRuns shape o own.Opens)))

own_next_at : (shape : Shape) (o : OwnTurnState) (step : OwnTurning) (reply : ℕ) → o.step ≡ step → OwnNow shape (own_turning_next shape o step reply)
unfolding own_turning_next own_turning_ask
own_next_at shape o own.Ended reply at = own_there shape o own.Ended at tt
own_next_at shape o own.Scans reply at = scanned_at shape (record o { scanning = scan_next shape.sessions o.scanning reply }) _ at
own_next_at shape o own.Claims reply at = claimed_at shape (record o { claiming = claim_next o.claiming reply }) _ at
own_next_at shape o own.Shifts reply at = shifted_at shape (record o { shift = shift_next shape o.shift reply }) _ at (λ took. shift_next_at shape took o.shift reply)
own_next_at shape o own.Opens reply at = opened_at shape (record o { turn = turn_next shape o.turn reply }) _ at (λ took. turn_next_at shape took o.turn reply)

-- a session at a step
abbrev counted : Seat → SessionState → SessionState
counted k s = record s { asks = asks_after s.asks (is_word_ask (session_ask k s)); effect = None }

abbrev Stays : Seat → SessionState → Sitting → Type 0
Stays k s step = is_busy (sitting_next k (counted k s) step 0).step ≡ true

abbrev Runs : Seat → SessionState → Sitting → Type 0
Runs k s step = (action : Action) → is_busy (sitting_given k s step action).step ≡ true

abbrev At : Seat → SessionState → Sitting → Type 0
At k s step = AtSlot (Stays k s step) (Runs k s step) (sitting_ask k s step)

abbrev Now : Seat → SessionState → Type 0
Now k s = At k s s.step

off_now : (k : Seat) (s : SessionState) → IsOff k s → Now k s
off_now k s off = off_at (Stays k s s.step) (Runs k s s.step) (session_ask k s) off

there : (k : Seat) (s : SessionState) (step : Sitting) → s.step ≡ step → At k s step → Now k s
there k s step at its = subst (λ (x : Sitting). At k s x) (sym at) its

turn_busy : (s : SessionState) (its : Told) (ask : Ask (Unit {0})) → s.step ≡ Turns its → is_done ask ≡ false → is_busy (turn_ledto s its ask).step ≡ true
unfolding turn_ledto
turn_busy s its (Done through) at asks = cc
turn_busy s its ask at asks = ap is_busy at

turns_at : (k : Seat) (s : SessionState) (its : Told) → s.step ≡ Turns its → OwnNow k.shape s.own_turn → At k s (Turns its)
unfolding sitting_ask sitting_next sitting_given
turns_at k s its at is = passed_at (Stays k s (Turns its)) (Runs k s (Turns its)) (own_turn_ask k.shape s.own_turn) its
    (at_more (OwnStays k.shape s.own_turn s.own_turn.step) (OwnRuns k.shape s.own_turn s.own_turn.step) (Stays k s (Turns its)) (Runs k s (Turns its)) (own_turn_ask k.shape s.own_turn)
    (λ asks. turn_busy (own_turn_moved k (counted k s) 0) its (own_turn_ask k.shape (own_turn_next k.shape s.own_turn 0)) at asks)
    (λ runs action. turn_busy (record s { own_turn = own_turn_given s.own_turn action }) its (own_turn_ask k.shape (own_turn_given s.own_turn action)) at (runs action)) is)

turned : (k : Seat) (s : SessionState) (its : Told) (ask : Ask (Unit {0})) → s.step ≡ Turns its → OwnNow k.shape s.own_turn → Now k (turn_ledto s its ask)
unfolding turn_ledto sitting_ask
turned k s its (Done through) at is = tt
turned k s its ask at is = there k s (Turns its) at (turns_at k s its at is)

-- the other states ask for no slot
refresh_off : (session : ℕ) (step : Refreshing) → IsOffSlots (refresh_ask session step)
unfolding refresh_ask
refresh_off session refresh.AtRest = tt
refresh_off session (refresh.HasLoaded epoch values) = tt
refresh_off session step = tt

protect_off : (session : ℕ) (step : Protecting) → IsOffSlots (protect_ask session step)
unfolding protect_ask
protect_off session protect.AtRest = tt
protect_off session step = tt

leave_off : (session : ℕ) (step : Leaving) → IsOffSlots (leave_ask session step)
unfolding leave_ask
leave_off session leave.AtRest = tt
leave_off session leave.StoresZero = tt

catch_off : (p : Places) (session : ℕ) (c : CatchState) (requests : _) (step : Catching) → IsOffSlots (catching_ask p session c requests step)
unfolding catching_ask
catch_off p session c requests catch.Ended = tt
catch_off p session c requests catch.Refreshes = passed_off _ _ (refresh_off session c.refreshing)
catch_off p session c requests catch.Protects = passed_off _ _ (protect_off session c.protecting)
catch_off p session c requests catch.StoresCut = tt
catch_off p session c requests catch.StoresOwing = tt
catch_off p session c requests (catch.Latches index) = passed_off _ _ (latch_off c.latching)
catch_off p session c requests catch.Finishes = passed_off _ _ (refresh_off session c.refreshing)

at_off : (k : Seat) (s : SessionState) (step : Sitting) → s.step ≡ step → IsOffSlots (sitting_ask k s step) → IsOff k s
at_off k s step at off = subst (λ (x : Sitting). IsOffSlots (sitting_ask k s x)) (sym at) off

caught_off : (k : Seat) (s : SessionState) (cause : CatchCause) → IsOff k (caught_up k s cause)
unfolding sitting_ask attempts
caught_off k s Refreshes = tt
caught_off k s Wakes = tt
caught_off k s Shifts = at_call_off k (attempts k s true) true refl

catches_off : (k : Seat) (s : SessionState) (cause : CatchCause) (ask : Ask (Unit {0})) → s.step ≡ CatchesUp cause → IsOff k (catch_ledto k s cause ask)
unfolding catch_ledto sitting_ask
catches_off k s cause (Done its) at = caught_off k (record s { seen = s.catching.seen }) cause
catches_off k s cause ask at = at_off k s (CatchesUp cause) at (passed_off _ _ (catch_off k.places k.number s.catching s.requests s.catching.step))

clears_off : (k : Seat) (s : SessionState) (ask : Ask MailAnswer) → s.step ≡ ClearsMail → IsOff k (clear_ledto k s ask)
unfolding clear_ledto sitting_ask polls_at
clears_off k s (Done Cleared) at = polls_off k (record s { is_orphaned = false }) 0 (slice_get s.requests 0)
clears_off k s (Done its) at = polls_off k s 0 (slice_get s.requests 0)
clears_off k s ask at = at_off k s ClearsMail at (passed_off _ _ (mail_off k.number s.mailing))

leaves_off : (k : Seat) (s : SessionState) (ask : Ask (Unit {0})) → s.step ≡ Leaves → IsOff k (leave_ledto s ask)
unfolding leave_ledto sitting_ask
leaves_off k s (Done its) at = tt
leaves_off k s ask at = at_off k s Leaves at (passed_off _ _ (leave_off k.number s.leaving))

-- where a reply leads
next_now : (k : Seat) (s : SessionState) (step : Sitting) (reply : ℕ) → s.step ≡ step → Now k (sitting_next k s step reply)
unfolding sitting_next sitting_ask polls_at
next_now k s (Idle its) reply at = there k s (Idle its) at tt
next_now k s (Attempts again) reply at = off_now k _ (call_off k (attempt_moved k s reply) again _ at)
next_now k s (CatchesUp cause) reply at = off_now k _ (catches_off k (caught k s reply) cause _ at)
next_now k s ClearsMail reply at = off_now k _ (clears_off k (record s { mailing = mail_next s.mailing reply }) (mail_ask k.number (mail_next s.mailing reply)) at)
next_now k s (Polls index) reply at = off_now k _ (poll_off k (attempt_moved k s reply) index _ at)
next_now k s (StoresOwing index) reply at = off_now k _ (polls_off k s index (slice_get s.requests index))
next_now k s (Turns its) reply at = turned k (own_turn_moved k s reply) its _ at (own_next_at k.shape s.own_turn s.own_turn.step reply refl)
next_now k s StoresCut reply at = off_now k (record s { leaving = leave.StoresZero; step = Leaves }) (at_off k (record s { leaving = leave.StoresZero; step = Leaves }) Leaves refl (passed_off _ told.Slept (leave_off k.number leave.StoresZero)))
next_now k s Leaves reply at = off_now k _ (leaves_off k (record s { leaving = leave_next s.leaving }) (leave_ask k.number (leave_next s.leaving)) at)
next_now k s LoadsDurable reply at = tt

-- who asks for a slot has a call in hand
asks_busy : (k : Seat) (s : SessionState) (step : Sitting) → is_done (sitting_ask k s step) ≡ false → is_busy step ≡ true
unfolding sitting_ask
asks_busy k s (Idle its) asks = cc
asks_busy k s step asks = refl

got_busy : (k : Seat) (s : SessionState) (slot : ℕ) (found : Option Action) → session_ask k s ≡ Take slot → Runs k s s.step → is_busy (session_gets k s found).step ≡ true
got_busy k s slot None same runs = asks_busy k s s.step (ap is_done same)
got_busy k s slot (Some action) same runs = runs action

settled_busy : (k : Seat) (n : Near SessionState) (ask : Ask Told) (slot : ℕ) → session_ask k n.machine ≡ ask → Now k n.machine → slot_asked ask ≡ Some slot → is_busy (session_settled k n ask).machine.step ≡ true
unfolding session_settled
settled_busy k n (Put its action) slot same now e = subst (λ (x : Ask Told). AtSlot (Stays k n.machine n.machine.step) (Runs k n.machine n.machine.step) x) same now
settled_busy k n (Take its) slot same now e = got_busy k n.machine its (action_at n.actions its) same (subst (λ (x : Ask Told). AtSlot (Stays k n.machine n.machine.step) (Runs k n.machine n.machine.step) x) same now)
settled_busy k n ask slot same now e = none_some slot e

pub session_busy : (k : Seat) (n : Near SessionState) (ask : Ask Told) (slot : ℕ) → slot_asked ask ≡ None → slot_of_step ask (session_ask k (session_next k n.machine (reply_to n.words ask))) ≡ Some slot
    → is_busy (session_asks k n ask).machine.step ≡ true
unfolding session_asks
session_busy k n (Put its action) slot none e = cc
session_busy k n (Take its) slot none e = cc
session_busy k n (Done its) slot none e = none_some slot e
session_busy k n ask slot none e =
    settled_busy k (session_replied k n ask) (session_ask k (session_next k n.machine (reply_to n.words ask))) slot refl (next_now k (counted k n.machine) n.machine.step (reply_to n.words ask) refl) e
