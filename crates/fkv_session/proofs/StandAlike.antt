-- Sessions that stand alike go on so: what isn't in hand is never looked at, and a start forgets it.
use Rattle.std.proofs.Common.{◌≡◌, ℕ, ◌∙◌, refl, sym, ap, Bool, true, false, Option}
use Rattle.std.specs.Prelude.{Some, None, [], if◌then◌else◌, ◌==◌, not, length, slice_get}
use Rattle.fkv_base.specs.declared.faults.Fault.{Fault}
use Rattle.fkv_map.specs.declared.operations.Call.{Call}
use Rattle.fkv_map.specs.declared.operations.Call.TheVariants as call
use Rattle.fkv_map.specs.declared.operations.Op.{Op}
use Rattle.fkv_plane.specs.declared.actions.Action.{Action}
use Rattle.fkv_plane.specs.declared.asks.Ask.{Ask}
use Rattle.fkv_plane.specs.declared.asks.Ask.TheVariants.{Done}
use Rattle.fkv_epoch.specs.Leaving.{leave_next}
use Rattle.fkv_ops.specs.declared.answers.TryAnswer.{TryAnswer}
use Rattle.fkv_pending.specs.declared.mailing.MailAnswer.{MailAnswer}
use Rattle.fkv_pending.specs.declared.mailing.MailAnswer.TheVariants.{Cleared}
use Rattle.fkv_pending.specs.declared.pending_requests.PendingRequest.{PendingRequest}
use Rattle.fkv_pending.specs.Attempting.{AttemptState}
use Rattle.fkv_pending.specs.Mailing.{mail_next}
use Rattle.fkv_session.specs.declared.answers.Told.{Told}
use Rattle.fkv_session.specs.declared.sessions.CatchCause.TheVariants.{Refreshes, Wakes, Shifts}
use Rattle.fkv_session.specs.declared.sessions.Sitting.{Sitting}
use Rattle.fkv_session.specs.declared.sessions.Sitting.TheVariants.{Idle, Attempts, CatchesUp, ClearsMail, Polls, StoresOwing, Turns, StoresCut, Leaves, LoadsDurable}
use Rattle.fkv_session.specs.OwnTurns.{own_turn_given}
use Rattle.fkv_session.specs.Sessions.{SessionState, Seat, session_ask, sitting_ask, session_begun, call_begun, session_next, sitting_next, session_given, sitting_given, answers_after_turn, attempts, polls_request, polls_at, refusal_of, op_begun, refresh_call, poll_begun, poll_call, sleep_call, wake_call, poll_left, is_finished, is_owed, request_finished, finishes_request, keeps_request, poll_ledto, clear_ledto, catch_ledto, turn_ledto, leave_ledto, attempt_moved, caught, own_turn_moved, asks_after, is_word_ask}
use Rattle.fkv_session.specs.Alike.{Lasting, lasting, Standing, standing, StandAlike, op_in_hand, attempt_in_hand}

either : (c : Bool) (x y one other : SessionState) → StandAlike x one → StandAlike y other → StandAlike (if c then x else y) (if c then one else other)
either true x y one other first second = first
either false x y one other first second = second

-- ---- what begins an attempt
-- with another operation and another attempt
abbrev besides : SessionState → Op → AttemptState → SessionState
besides s op a = record s { op = op; attempt = a }

turn_alike : (s : SessionState) (op : Op) (a : AttemptState) (its : Told) → StandAlike (answers_after_turn s its) (answers_after_turn (besides s op a) its)
unfolding standing lasting
turn_alike s op a its = either s.wants_turn _ _ _ _ refl refl

attempts_alike : (k : Seat) (s : SessionState) (a : AttemptState) (has_shifted : Bool) → attempts k s has_shifted ≡ attempts k (record s { attempt = a }) has_shifted
unfolding attempts
attempts_alike k s a has_shifted = refl

request_alike : (k : Seat) (s : SessionState) (op : Op) (a : AttemptState) (index : ℕ) (found : Option PendingRequest) → StandAlike (polls_request k s index found) (polls_request k (besides s op a) index found)
unfolding standing lasting
request_alike k s op a index None = turn_alike s op a _
request_alike k s op a index (Some pending) = refl

polls_alike : (k : Seat) (s : SessionState) (op : Op) (a : AttemptState) (index : ℕ) → StandAlike (polls_at k s index) (polls_at k (besides s op a) index)
unfolding polls_at
polls_alike k s op a index = request_alike k s op a index (slice_get s.requests index)

-- ---- where a step leads
-- at this step, with another operation and another attempt where none is in hand
abbrev other_op : Sitting → Op → Op → Op
other_op (Attempts has_shifted) mine its = mine
other_op (CatchesUp Shifts) mine its = mine
other_op step mine its = its

abbrev other_attempt : Sitting → AttemptState → AttemptState → AttemptState
other_attempt (Attempts has_shifted) mine its = mine
other_attempt (Polls index) mine its = mine
other_attempt step mine its = its

abbrev at : Sitting → SessionState → Op → AttemptState → SessionState
at step s op a = record s { op = other_op step s.op op; attempt = other_attempt step s.attempt a }

stays : (step : Sitting) (s : SessionState) (op : Op) (a : AttemptState) → s.step ≡ step → StandAlike s (at step s op a)
unfolding standing lasting
stays (Idle its) s op a e = rw e refl
stays (Attempts has_shifted) s op a e = refl
stays (CatchesUp Refreshes) s op a e = rw e refl
stays (CatchesUp Wakes) s op a e = rw e refl
stays (CatchesUp Shifts) s op a e = rw e refl
stays ClearsMail s op a e = rw e refl
stays (Polls index) s op a e = rw e refl
stays (StoresOwing index) s op a e = rw e refl
stays (Turns its) s op a e = rw e refl
stays StoresCut s op a e = rw e refl
stays Leaves s op a e = rw e refl
stays LoadsDurable s op a e = rw e refl

asks_alike : (k : Seat) (step : Sitting) (s : SessionState) (op : Op) (a : AttemptState) → sitting_ask k s step ≡ sitting_ask k (at step s op a) step
unfolding sitting_ask
asks_alike k (Idle its) s op a = refl
asks_alike k (Attempts has_shifted) s op a = refl
asks_alike k (CatchesUp Refreshes) s op a = refl
asks_alike k (CatchesUp Wakes) s op a = refl
asks_alike k (CatchesUp Shifts) s op a = refl
asks_alike k ClearsMail s op a = refl
asks_alike k (Polls index) s op a = refl
asks_alike k (StoresOwing index) s op a = refl
asks_alike k (Turns its) s op a = refl
asks_alike k StoresCut s op a = refl
asks_alike k Leaves s op a = refl
asks_alike k LoadsDurable s op a = refl

refresh_alike : (k : Seat) (s : SessionState) (op : Op) (a : AttemptState) (ask : Ask (Unit {0})) → s.step ≡ CatchesUp Refreshes → StandAlike (catch_ledto k s Refreshes ask) (catch_ledto k (besides s op a) Refreshes ask)
unfolding standing lasting catch_ledto
refresh_alike k s op a (Done its) e = refl
refresh_alike k s op a ask e = stays (CatchesUp Refreshes) s op a e

wake_alike : (k : Seat) (s : SessionState) (op : Op) (a : AttemptState) (ask : Ask (Unit {0})) → s.step ≡ CatchesUp Wakes → StandAlike (catch_ledto k s Wakes ask) (catch_ledto k (besides s op a) Wakes ask)
unfolding standing lasting catch_ledto
wake_alike k s op a (Done its) e = refl
wake_alike k s op a ask e = stays (CatchesUp Wakes) s op a e

shift_alike : (k : Seat) (s : SessionState) (a : AttemptState) (ask : Ask (Unit {0})) → s.step ≡ CatchesUp Shifts → StandAlike (catch_ledto k s Shifts ask) (catch_ledto k (record s { attempt = a }) Shifts ask)
unfolding catch_ledto
shift_alike k s a (Done its) e = ap standing (attempts_alike k (record s { seen = s.catching.seen }) a true)
shift_alike k s a ask e = stays (CatchesUp Shifts) s s.op a e

clear_alike : (k : Seat) (s : SessionState) (op : Op) (a : AttemptState) (ask : Ask MailAnswer) → s.step ≡ ClearsMail → StandAlike (clear_ledto k s ask) (clear_ledto k (besides s op a) ask)
unfolding clear_ledto
clear_alike k s op a (Done Cleared) e = polls_alike k (record s { is_orphaned = false }) op a 0
clear_alike k s op a (Done its) e = polls_alike k s op a 0
clear_alike k s op a ask e = stays ClearsMail s op a e

finishes_alike : (k : Seat) (s : SessionState) (op : Op) (index : ℕ) (its : TryAnswer) → StandAlike (finishes_request k s index its) (finishes_request k (record s { op = op }) index its)
unfolding standing lasting finishes_request
finishes_alike k s op index its = either (is_owed s) _ _ _ _ refl (polls_alike k (request_finished s index its) op s.attempt index)

keeps_alike : (k : Seat) (s : SessionState) (op : Op) (index : ℕ) (its : TryAnswer) → StandAlike (keeps_request k s index its) (keeps_request k (record s { op = op }) index its)
unfolding keeps_request
keeps_alike k s op index its = polls_alike k _ op s.attempt _

poll_alike : (k : Seat) (s : SessionState) (op : Op) (index : ℕ) (ask : Ask TryAnswer) → s.step ≡ Polls index → StandAlike (poll_ledto k s index ask) (poll_ledto k (record s { op = op }) index ask)
unfolding poll_ledto
poll_alike k s op index (Done its) e = either (is_finished its) _ _ _ _ (finishes_alike k (poll_left s) op index its) (keeps_alike k (poll_left s) op index its)
poll_alike k s op index ask e = stays (Polls index) s op s.attempt e

own_turn_alike : (s : SessionState) (op : Op) (a : AttemptState) (its : Told) (ask : Ask (Unit {0})) → s.step ≡ Turns its → StandAlike (turn_ledto s its ask) (turn_ledto (besides s op a) its ask)
unfolding standing lasting turn_ledto
own_turn_alike s op a its (Done through) e = refl
own_turn_alike s op a its ask e = stays (Turns its) s op a e

leave_alike : (s : SessionState) (op : Op) (a : AttemptState) (ask : Ask (Unit {0})) → s.step ≡ Leaves → StandAlike (leave_ledto s ask) (leave_ledto (besides s op a) ask)
unfolding standing lasting leave_ledto
leave_alike s op a (Done its) e = refl
leave_alike s op a ask e = stays Leaves s op a e

next_alike : (k : Seat) (step : Sitting) (s : SessionState) (op : Op) (a : AttemptState) (reply : ℕ) → s.step ≡ step → StandAlike (sitting_next k s step reply) (sitting_next k (at step s op a) step reply)
unfolding standing lasting sitting_next
next_alike k (Idle its) s op a reply e = stays (Idle its) s op a e
next_alike k (Attempts has_shifted) s op a reply e = refl
next_alike k (CatchesUp Refreshes) s op a reply e = refresh_alike k (caught k s reply) op a _ e
next_alike k (CatchesUp Wakes) s op a reply e = wake_alike k (caught k s reply) op a _ e
next_alike k (CatchesUp Shifts) s op a reply e = shift_alike k (caught k s reply) a _ e
next_alike k ClearsMail s op a reply e = clear_alike k (record s { mailing = mail_next s.mailing reply }) op a _ e
next_alike k (Polls index) s op a reply e = poll_alike k (attempt_moved k s reply) op index _ e
next_alike k (StoresOwing index) s op a reply e = polls_alike k s op a index
next_alike k (Turns its) s op a reply e = own_turn_alike (own_turn_moved k s reply) op a its _ e
next_alike k StoresCut s op a reply e = refl
next_alike k Leaves s op a reply e = leave_alike (record s { leaving = leave_next s.leaving }) op a _ e
next_alike k LoadsDurable s op a reply e = refl

given_alike : (k : Seat) (step : Sitting) (s : SessionState) (op : Op) (a : AttemptState) (action : Action) → s.step ≡ step → StandAlike (sitting_given k s step action) (sitting_given k (at step s op a) step action)
unfolding sitting_given
given_alike k (Idle its) s op a action e = stays (Idle its) s op a e
given_alike k (Attempts has_shifted) s op a action e = refl
given_alike k (CatchesUp Refreshes) s op a action e = stays (CatchesUp Refreshes) s op a e
given_alike k (CatchesUp Wakes) s op a action e = stays (CatchesUp Wakes) s op a e
given_alike k (CatchesUp Shifts) s op a action e = stays (CatchesUp Shifts) s op a e
given_alike k ClearsMail s op a action e = stays ClearsMail s op a e
given_alike k (Polls index) s op a action e = stays (Polls index) s op a e
given_alike k (StoresOwing index) s op a action e = stays (StoresOwing index) s op a e
given_alike k (Turns its) s op a action e = own_turn_alike (record s { own_turn = own_turn_given s.own_turn action }) op a its _ e
given_alike k StoresCut s op a action e = stays StoresCut s op a e
given_alike k Leaves s op a action e = stays Leaves s op a e
given_alike k LoadsDurable s op a action e = stays LoadsDurable s op a e

-- ---- two sessions that stand alike
-- a session, but that this lasts of it
abbrev lasted : Lasting → SessionState → SessionState
lasted l s =
    record s {
      seen = l.seen;
      serial = l.serial;
      ticket = l.ticket;
      floor = l.floor;
      requests = l.requests;
      is_orphaned = l.is_orphaned;
      spare = l.spare;
      is_awake = l.is_awake;
      finished = l.finished;
      catching = l.catching;
      mailing = l.mailing;
      leaving = l.leaving;
      own_turn = l.own_turn;
    }

abbrev stood : Standing → SessionState → SessionState
stood g s = record (lasted g.lasts s) { step = g.step; wants_turn = g.wants_turn; asks = g.asks; effect = g.effect }

other_than : (s t : SessionState) → StandAlike s t → besides s t.op t.attempt ≡ t
unfolding standing lasting
other_than s t alike = ap (λ (g : Standing). stood g t) alike

pub same_step : (s t : SessionState) → StandAlike s t → s.step ≡ t.step
unfolding standing
same_step s t alike = ap (λ (g : Standing). g.step) alike

pub same_lasting : (s t : SessionState) → StandAlike s t → lasting s ≡ lasting t
unfolding standing
same_lasting s t alike = ap (λ (g : Standing). g.lasts) alike

same_op : (s t : SessionState) → StandAlike s t → op_in_hand s.step s.op ≡ op_in_hand t.step t.op
unfolding standing
same_op s t alike = ap (λ (g : Standing). g.op) alike

same_attempt : (s t : SessionState) → StandAlike s t → attempt_in_hand s.step s.attempt ≡ attempt_in_hand t.step t.attempt
unfolding standing
same_attempt s t alike = ap (λ (g : Standing). g.attempt) alike

its_op : (step : Sitting) (mine its : Op) → op_in_hand step mine ≡ op_in_hand step its → other_op step mine its ≡ its
its_op (Idle told) mine its e = refl
its_op (Attempts has_shifted) mine its e = cc
its_op (CatchesUp Refreshes) mine its e = refl
its_op (CatchesUp Wakes) mine its e = refl
its_op (CatchesUp Shifts) mine its e = cc
its_op ClearsMail mine its e = refl
its_op (Polls index) mine its e = refl
its_op (StoresOwing index) mine its e = refl
its_op (Turns told) mine its e = refl
its_op StoresCut mine its e = refl
its_op Leaves mine its e = refl
its_op LoadsDurable mine its e = refl

its_attempt : (step : Sitting) (mine its : AttemptState) → attempt_in_hand step mine ≡ attempt_in_hand step its → other_attempt step mine its ≡ its
its_attempt (Idle told) mine its e = refl
its_attempt (Attempts has_shifted) mine its e = cc
its_attempt (CatchesUp cause) mine its e = refl
its_attempt ClearsMail mine its e = refl
its_attempt (Polls index) mine its e = cc
its_attempt (StoresOwing index) mine its e = refl
its_attempt (Turns told) mine its e = refl
its_attempt StoresCut mine its e = refl
its_attempt Leaves mine its e = refl
its_attempt LoadsDurable mine its e = refl

at_other : (s t : SessionState) → StandAlike s t → at s.step s t.op t.attempt ≡ t
at_other s t alike =
    let step : t.step ≡ s.step = sym (same_step s t alike) in
    let op : other_op s.step s.op t.op ≡ t.op = its_op s.step s.op t.op (same_op s t alike ∙ ap (λ (x : Sitting). op_in_hand x t.op) step) in
    let attempt : other_attempt s.step s.attempt t.attempt ≡ t.attempt = its_attempt s.step s.attempt t.attempt (same_attempt s t alike ∙ ap (λ (x : Sitting). attempt_in_hand x t.attempt) step) in
    ap (λ (o : Op). record s { op = o; attempt = other_attempt s.step s.attempt t.attempt }) op ∙ ap (λ (x : AttemptState). record s { op = t.op; attempt = x }) attempt ∙ other_than s t alike

pub same_ask : (k : Seat) (s t : SessionState) → StandAlike s t → session_ask k s ≡ session_ask k t
same_ask k s t alike = asks_alike k s.step s t.op t.attempt ∙ ap (session_ask k) (at_other s t alike)

pub next_same : (k : Seat) (s t : SessionState) (reply : ℕ) → StandAlike s t → StandAlike (session_next k s reply) (session_next k t reply)
next_same k s t reply alike =
    next_alike k s.step (record s { asks = asks_after s.asks (is_word_ask (session_ask k s)); effect = None }) t.op t.attempt reply refl
    ∙ ap (λ (ask : Ask Told). standing (sitting_next k (record (at s.step s t.op t.attempt) { asks = asks_after s.asks (is_word_ask ask); effect = None }) s.step reply)) (asks_alike k s.step s t.op t.attempt)
    ∙ ap (λ (x : SessionState). standing (session_next k x reply)) (at_other s t alike)

pub given_same : (k : Seat) (s t : SessionState) (action : Action) → StandAlike s t → StandAlike (session_given k s action) (session_given k t action)
given_same k s t action alike = given_alike k s.step s t.op t.attempt action refl ∙ ap (λ (x : SessionState). standing (session_given k x action)) (at_other s t alike)

-- ---- two sessions of which the same lasts begin alike
op_alike : (k : Seat) (s : SessionState) (op : Op) (a : AttemptState) (step : Sitting) (its : Op) (why : Option Fault) → StandAlike (op_begun k s its why) (op_begun k (record (besides s op a) { step = step }) its why)
unfolding standing lasting op_begun attempts
op_alike k s op a step its (Some why) = refl
op_alike k s op a step its None = refl

refreshes_alike : (s : SessionState) (op : Op) (a : AttemptState) (step : Sitting) → StandAlike (refresh_call s) (refresh_call (record (besides s op a) { step = step }))
unfolding standing lasting refresh_call
refreshes_alike s op a step = either s.is_awake _ _ _ _ refl refl

polls_step : (k : Seat) (s : SessionState) (step : Sitting) (index : ℕ) → StandAlike (polls_at k s index) (polls_at k (record s { step = step }) index)
unfolding polls_at
polls_step k s step index = request_step (slice_get s.requests index)
  where
    request_step : (found : Option PendingRequest) → StandAlike (polls_request k s index found) (polls_request k (record s { step = step }) index found)
    request_step None = either s.wants_turn _ _ _ _ refl refl
    request_step (Some pending) = refl

poll_begun_alike : (k : Seat) (s : SessionState) (op : Op) (a : AttemptState) (step : Sitting) → StandAlike (poll_begun k s) (poll_begun k (record (besides s op a) { step = step }))
unfolding standing lasting
poll_begun_alike k s op a step = either s.is_orphaned _ _ _ _ refl (polls_alike k s op a 0 ∙ polls_step k (besides s op a) step 0)

begun_alike : (k : Seat) (s : SessionState) (op : Op) (a : AttemptState) (step : Sitting) (its : Call) → StandAlike (call_begun k s its) (call_begun k (record (besides s op a) { step = step }) its)
unfolding standing lasting poll_call sleep_call wake_call
begun_alike k s op a step (call.Op its) = op_alike k s op a step its (refusal_of s its)
begun_alike k s op a step call.Refresh = refreshes_alike s op a step
begun_alike k s op a step call.Poll = either s.is_awake _ _ _ _ (poll_begun_alike k (record s { finished = [] }) op a step) refl
begun_alike k s op a step call.Sleep = either (not s.is_awake) _ _ _ _ refl (either (length s.requests == 0) _ _ _ _ refl refl)
begun_alike k s op a step call.Wake = either s.is_awake _ _ _ _ refl refl
begun_alike k s op a step call.Durable = refl

lasts_in : (s t : SessionState) → lasting s ≡ lasting t
    → record s { asks = 0; effect = None; wants_turn = false; op = t.op; attempt = t.attempt; step = t.step } ≡ record t { asks = 0; effect = None; wants_turn = false }
unfolding lasting
lasts_in s t e = ap (λ (l : Lasting). record (lasted l t) { asks = 0; effect = None; wants_turn = false }) e

pub begun_same : (k : Seat) (s t : SessionState) (its : Call) → lasting s ≡ lasting t → StandAlike (session_begun k s its) (session_begun k t its)
begun_same k s t its e =
    begun_alike k (record s { asks = 0; effect = None; wants_turn = false }) t.op t.attempt t.step its ∙ ap (λ (x : SessionState). standing (call_begun k x its)) (lasts_in s t e)

-- an operation that is attempted begins in one state
pub attempted_same : (k : Seat) (s t : SessionState) (its : Op) → lasting s ≡ lasting t → refusal_of s its ≡ None → session_begun k s (call.Op its) ≡ session_begun k t (call.Op its)
unfolding op_begun attempts
attempted_same k s t its e none =
    let here : op_begun k (record s { asks = 0; effect = None; wants_turn = false }) its (refusal_of s its) ≡ op_begun k (record s { asks = 0; effect = None; wants_turn = false; op = t.op; attempt = t.attempt; step = t.step }) its (refusal_of s its) = rw none refl in
    here ∙ ap (λ (x : SessionState). call_begun k x (call.Op its)) (lasts_in s t e)
