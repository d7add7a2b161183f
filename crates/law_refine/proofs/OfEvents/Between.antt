-- What a session has reserved stays where a call begins, and where an action goes with a step.
use Rattle.std.proofs.Common.{◌≡◌, ℕ, ◌∙◌, refl, sym, ap, subst, Bool, true, false, List, []}
use Rattle.std.specs.Prelude.{not, ◌==◌, if◌then◌else◌, length, Option, Some, None}
use Rattle.fkv_base.specs.declared.faults.Fault.{Fault}
use Rattle.fkv_map.specs.declared.operations.Call.{Call}
use Rattle.fkv_map.specs.declared.operations.Call.TheVariants as call
use Rattle.fkv_map.specs.declared.operations.Op.{Op}
use Rattle.fkv_plane.specs.declared.actions.Action.{Action}
use Rattle.fkv_plane.specs.declared.asks.Ask.{Ask}
use Rattle.fkv_plane.specs.declared.asks.Ask.TheVariants.{Put, Take, Done}
use Rattle.fkv_plane.specs.Asked.{asked, asked_place, reply_to}
use Rattle.fkv_plane.specs.Passing.{passed}
use Rattle.fkv_plane.specs.Plane.{action_at}
use Rattle.fkv_epoch.specs.Leaving.{leave_ask, leave_next}
use Rattle.law_world.specs.Below.fkv_pending.MailAnswer.{MailAnswer}
use Rattle.law_world.specs.Below.fkv_pending.MailTask.TheVariants.{Clear}
use Rattle.law_world.specs.Below.fkv_pending.TheMailing.TheVariants.{LoadsState}
use Rattle.law_world.specs.Below.fkv_pending.Mailing.{mail_ask, mail_next}
use Rattle.law_world.specs.Below.fkv_session.Told.{Told}
use Rattle.law_world.specs.Below.fkv_session.Sitting.{Sitting}
use Rattle.law_world.specs.Below.fkv_session.Sitting.TheVariants.{Idle, Attempts, CatchesUp, ClearsMail, Polls, StoresOwing, Turns, StoresCut, Leaves, LoadsDurable}
use Rattle.law_world.specs.Below.fkv_session.CatchingUp.{catch_ask}
use Rattle.law_world.specs.Below.fkv_session.OwnTurns.{own_turn_ask, own_turn_given}
use Rattle.law_world.specs.Below.fkv_session.Sessions.{SessionState, Seat, is_busy, sitting_ask, session_ask, sitting_next, session_next, sitting_given, session_begun, polls_at, refusal_of, op_begun, refresh_call, poll_begun, poll_call, sleep_call, wake_call, caught, own_turn_moved, asks_after, is_word_ask}
use Rattle.law_world.specs.Below.fkv_world.Moves.{Near, session_gets, session_settled, session_replied, session_asks}
use Rattle.law_world.specs.Below.fkv_world.Past.{Traced}
use Rattle.law_world.specs.Below.fkv_world.World.{session_called}
use Rattle.law_refine.specs.Events.Reservations.{MovesOn, Keeps, Reservation}
use Rattle.law_refine.specs.Events.Reserved.{reserved_by, sitting_reserves}
use Rattle.law_refine.specs.Events.Sessions.{sitting_ghosts, step_ghosts}
use Rattle.law_world.proofs.OfRuns.NoSlots.{IsOffSlots, passed_off, attempt_off_slots}
use Rattle.law_refine.proofs.OfEvents.SessionSteps.{IsFreeOf, either_free, attempts_free, polls_free, catch_free, clear_free, turn_free, leave_free}

-- ---- a call begins where none is in hand, and reserves nothing
op_free : (number : ℕ) (k : Seat) (s : SessionState) (op : Op) (why : Option Fault) → IsFreeOf number (op_begun k s op why)
unfolding op_begun
op_free number k s op (Some why) = refl
op_free number k s op None = attempts_free number k (record s { op = op }) false

poll_begun_free : (number : ℕ) (k : Seat) (s : SessionState) → IsFreeOf number (poll_begun k s)
poll_begun_free number k s = either_free number s.is_orphaned (record s { mailing = LoadsState Clear; step = ClearsMail }) (polls_at k s 0) refl (polls_free number k s 0)

begun_free : (number : ℕ) (k : Seat) (s : SessionState) (its : Call) → IsFreeOf number (session_begun k s its)
unfolding refresh_call poll_call sleep_call wake_call
begun_free number k s (call.Op op) = op_free number k (record s { asks = 0; effect = None; wants_turn = false }) op (refusal_of (record s { asks = 0; effect = None; wants_turn = false }) op)
begun_free number k s call.Refresh = either_free number s.is_awake _ _ refl refl
begun_free number k s call.Poll = either_free number s.is_awake _ _ (poll_begun_free number k (record s { asks = 0; effect = None; wants_turn = false; finished = [] })) refl
begun_free number k s call.Sleep = either_free number (not s.is_awake) _ _ refl (either_free number (length s.requests == 0) _ _ refl refl)
begun_free number k s call.Wake = either_free number s.is_awake _ _ refl refl
begun_free number k s call.Durable = refl

pub idle_free : (number : ℕ) (s : SessionState) (step : Sitting) → is_busy step ≡ false → sitting_reserves number s step ≡ None
idle_free number s (Idle its) idle = refl
idle_free number s step idle = cc

pub called_same : (number : ℕ) (k : Seat) (s : SessionState) (its : Call) → reserved_by number (session_called k s its) ≡ reserved_by number s
called_same number k s its = by_busy (is_busy s.step) refl
  where
    by_busy : (busy : Bool) → is_busy s.step ≡ busy → reserved_by number (if busy then s else session_begun k s its) ≡ reserved_by number s
    by_busy true e = refl
    by_busy false e = begun_free number k s its ∙ sym (idle_free number s s.step e)

-- ---- an action is put by a session that attempts nothing
never_puts : {A B : Type 0} (ask : Ask A) (told : B) (slot : ℕ) (action : Action) → IsOffSlots ask → passed ask told ≡ Put slot action → ⊥
never_puts ask told slot action off e = subst IsOffSlots e (passed_off ask told off)

put_free : (k : Seat) (s : SessionState) (asks : ℕ) (step : Sitting) (slot : ℕ) (action : Action) → s.step ≡ step → sitting_ask k s step ≡ Put slot action
    → (sitting_reserves k.number s step ≡ None) × IsFreeOf k.number (sitting_next k (record s { asks = asks; effect = None }) step 0)
unfolding sitting_next sitting_ask
put_free k s asks (Idle its) slot action at e = cc
put_free k s asks (Attempts has_shifted) slot action at e = absurd (never_puts _ _ slot action (attempt_off_slots k.places k.number s.attempt s.attempt.step) e)
put_free k s asks (Polls index) slot action at e = absurd (never_puts _ _ slot action (attempt_off_slots k.places k.number s.attempt s.attempt.step) e)
put_free k s asks (CatchesUp its) slot action at e =
    let after : SessionState = caught k (record s { asks = asks; effect = None }) 0 in
    let ask : Ask (Unit {0}) = catch_ask k.places k.number after.catching after.requests in
    (refl, catch_free k.number k after its ask at)
put_free k s asks ClearsMail slot action at e =
    let after : SessionState = record s { asks = asks; effect = None; mailing = mail_next s.mailing 0 } in
    let ask : Ask MailAnswer = mail_ask k.number (mail_next s.mailing 0) in
    (refl, clear_free k.number k after ask at)
put_free k s asks (StoresOwing index) slot action at e = cc
put_free k s asks (Turns its) slot action at e =
    let after : SessionState = own_turn_moved k (record s { asks = asks; effect = None }) 0 in
    let ask : Ask (Unit {0}) = own_turn_ask k.shape after.own_turn in
    (refl, turn_free k.number after its ask at)
put_free k s asks StoresCut slot action at e = cc
put_free k s asks Leaves slot action at e =
    let after : SessionState = record s { asks = asks; effect = None; leaving = leave_next s.leaving } in
    let ask : Ask (Unit {0}) = leave_ask k.number (leave_next s.leaving) in
    (refl, leave_free k.number after ask at)
put_free k s asks LoadsDurable slot action at e = cc

-- and one is taken by a session that turns
given_same : (k : Seat) (s : SessionState) (step : Sitting) (action : Action) → s.step ≡ step → reserved_by k.number (sitting_given k s step action) ≡ sitting_reserves k.number s step
unfolding sitting_given
given_same k s (Turns its) action at =
    let after : SessionState = record s { own_turn = own_turn_given s.own_turn action } in
    turn_free k.number after its (own_turn_ask k.shape after.own_turn) at
given_same k s step action at = ap (sitting_reserves k.number s) at

gets_same : (k : Seat) (s : SessionState) (found : Option Action) → reserved_by k.number (session_gets k s found) ≡ reserved_by k.number s
gets_same k s None = refl
gets_same k s (Some action) = given_same k s s.step action refl

settled_same : (k : Seat) (n : Near SessionState) (ask : Ask Told) → session_ask k n.machine ≡ ask → reserved_by k.number (session_settled k n ask).machine ≡ reserved_by k.number n.machine
unfolding session_settled
settled_same k n (Put slot action) e =
    let free = put_free k n.machine (asks_after n.machine.asks (is_word_ask (session_ask k n.machine))) n.machine.step slot action refl e in
    free.1 ∙ sym free.0
settled_same k n (Take slot) e = gets_same k n.machine (action_at n.actions slot)
settled_same k n ask e = refl

-- ---- so a whole step of a session moves it as its events say
pub asks_moves : (k : Seat) (trace : List Traced) (n : Near SessionState) (ask : Ask Told) → session_ask k n.machine ≡ ask
    → MovesOn (asked_place ask) (asked ask) (reply_to n.words ask) (sitting_ghosts k trace n.machine n.machine.step (reply_to n.words ask)) (reserved_by k.number n.machine) (reserved_by k.number (session_next k n.machine (reply_to n.words ask)))
    → MovesOn (asked_place ask) (asked ask) (reply_to n.words ask) (step_ghosts k trace n.machine n.words ask) (reserved_by k.number n.machine) (reserved_by k.number (session_asks k n ask).machine)
unfolding session_asks step_ghosts
asks_moves k trace n (Done its) e moves = Keeps [] (reserved_by k.number n.machine) tt
asks_moves k trace n (Put slot action) e moves = rw (settled_same k n (Put slot action) e) (Keeps [] (reserved_by k.number n.machine) tt)
asks_moves k trace n (Take slot) e moves = rw (settled_same k n (Take slot) e) (Keeps [] (reserved_by k.number n.machine) tt)
asks_moves k trace n ask e moves =
    subst (λ (x : Option Reservation). MovesOn (asked_place ask) (asked ask) (reply_to n.words ask) (sitting_ghosts k trace n.machine n.machine.step (reply_to n.words ask)) (reserved_by k.number n.machine) x)
    (sym (settled_same k (session_replied k n ask) (session_ask k (session_replied k n ask).machine) refl)) moves
