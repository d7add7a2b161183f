-- The requests that wait behind a reply, a call that begins and an action that is given.
use Rattle.std.proofs.Common.{◌≡◌, ℕ, ◌+◌, refl, sym, subst, Bool, true, false, List, [], ◌∷◌, ◌++◌, length}
use Rattle.std.specs.Prelude.{Option, Some, None, if◌then◌else◌, not, ◌==◌, ◌||◌, slice_get, slice_set}
use Rattle.std.specs.List.{remove}
use Rattle.fkv_base.specs.declared.faults.Fault.{Fault}
use Rattle.fkv_base.specs.declared.faults.Fault.TheVariants as fault
use Rattle.fkv_map.specs.declared.operations.Call.{Call}
use Rattle.fkv_map.specs.declared.operations.Call.TheVariants as call
use Rattle.fkv_map.specs.declared.operations.Op.{Op}
use Rattle.fkv_plane.specs.declared.actions.Action.{Action}
use Rattle.fkv_plane.specs.declared.asks.Ask.{Ask}
use Rattle.fkv_plane.specs.declared.asks.Ask.TheVariants.{Done}
use Rattle.fkv_epoch.specs.Leaving.{leave_ask, leave_next}
use Rattle.fkv_latch.specs.declared.latching.LatchAnswer.{LatchAnswer}
use Rattle.fkv_latch.specs.declared.latching.LatchAnswer.TheVariants.{Taken as LatchTaken}
use Rattle.fkv_latch.specs.Latching.{latch_next_ask}
use Rattle.fkv_ops.specs.declared.answers.Reason.{Reason}
use Rattle.fkv_ops.specs.declared.answers.Reason.TheVariants as reason
use Rattle.fkv_ops.specs.declared.answers.TryAnswer.{TryAnswer}
use Rattle.fkv_ops.specs.declared.answers.TryAnswer.TheVariants as tried
use Rattle.fkv_ops.specs.Requests.{is_read}
use Rattle.fkv_pending.specs.declared.mailing.MailAnswer.{MailAnswer}
use Rattle.fkv_pending.specs.declared.mailing.MailAnswer.TheVariants.{Cleared}
use Rattle.fkv_pending.specs.declared.mailing.MailTask.TheVariants.{Clear}
use Rattle.fkv_pending.specs.declared.mailing.Mailing.TheVariants.{LoadsState}
use Rattle.fkv_pending.specs.declared.pending_requests.PendingRequest.{PendingRequest}
use Rattle.fkv_pending.specs.Mailing.{mail_ask, mail_next}
use Rattle.fkv_session.specs.declared.answers.Told.{Told}
use Rattle.fkv_session.specs.declared.answers.Told.TheVariants as told
use Rattle.fkv_session.specs.declared.catching_up.Catching.{Catching}
use Rattle.fkv_session.specs.declared.catching_up.Catching.TheVariants.{Latches}
use Rattle.fkv_session.specs.declared.sessions.CatchCause.{CatchCause}
use Rattle.fkv_session.specs.declared.sessions.CatchCause.TheVariants.{Refreshes, Wakes, Shifts}
use Rattle.fkv_session.specs.declared.sessions.Sitting.{Sitting}
use Rattle.fkv_session.specs.declared.sessions.Sitting.TheVariants.{Idle, Attempts, CatchesUp, ClearsMail, Polls, StoresOwing, Turns, StoresCut, Leaves, LoadsDurable}
use Rattle.fkv_session.specs.CatchingUp.{CatchState, refresh_begun, wake_begun, latched, latch_marked, catching_requests}
use Rattle.fkv_session.specs.OwnTurns.{own_turn_ask, own_turn_begun, own_turn_given}
use Rattle.fkv_session.specs.Sessions.{SessionState, Seat, answers, answers_after_turn, attempts, polls_request, polls_at, refuses, refusal_of, op_begun, refresh_call, poll_begun, poll_call, sleep_call, wake_call, call_begun, session_begun, session_next, session_given, attempt_left, poll_left, serial_taken, update_done, ticket_after, is_no_room, with_request, accepts, shifts, attempted, attempt_ledto, caught_up, catch_ledto, clear_ledto, is_finished, is_owed, request_finished, finishes_request, lacks_room, keeps_request, poll_ledto, turn_ledto, leave_ledto, attempt_moved, caught, own_turn_moved, sitting_next, sitting_given, asks_after, is_word_ask, session_ask}
use Rattle.law_local.specs.Sessions.Known.{is_accepted, attempt_after, attempt_comes_to}
use Rattle.law_local.specs.Sessions.Moves.{with_accepted, with_polled, requests_at, requests_after, RequestsMove, Stay, OneComes, OneIsSet, OneGoes, OneLatches}

-- the session has these requests
abbrev Has : SessionState → List PendingRequest → Type 0
Has s requests = s.requests ≡ requests

either_has : (c : Bool) (a b : SessionState) (requests : List PendingRequest) → Has a requests → Has b requests → Has (if c then a else b) requests
either_has true a b requests one other = one
either_has false a b requests one other = other

turn_has : (s : SessionState) (its : Told) → Has (answers_after_turn s its) s.requests
turn_has s its = either_has s.wants_turn (record s { own_turn = own_turn_begun s.own_turn; step = Turns its }) (answers s its) s.requests refl refl

attempts_has : (k : Seat) (s : SessionState) (has_shifted : Bool) → Has (attempts k s has_shifted) s.requests
unfolding attempts
attempts_has k s has_shifted = refl

polls_found : (k : Seat) (s : SessionState) (i : ℕ) (found : Option PendingRequest) → Has (polls_request k s i found) s.requests
polls_found k s i None = turn_has s (told.Polled (length s.requests))
polls_found k s i (Some its) = refl

polls_has : (k : Seat) (s : SessionState) (i : ℕ) → Has (polls_at k s i) s.requests
unfolding polls_at
polls_has k s i = polls_found k s i (slice_get s.requests i)

accepts_has : (s : SessionState) (why : Reason) → Has (accepts s why) (s.requests ++ s.attempt.pending ∷ [])
unfolding accepts
accepts_has s why =
    either_has (is_read s.op) (answers (with_request (record s { ticket = ticket_after s.ticket })) (told.PendingRead (record { 0 = ticket_after s.ticket })))
    (answers_after_turn (with_request (serial_taken (record s { wants_turn = is_no_room why }))) (told.Pending (record { 0 = s.serial + 1 }) why)) (s.requests ++ s.attempt.pending ∷ []) refl
    (turn_has (with_request (serial_taken (record s { wants_turn = is_no_room why }))) (told.Pending (record { 0 = s.serial + 1 }) why))

shifts_has : (s : SessionState) (has_shifted : Bool) → Has (shifts s has_shifted) (if has_shifted then s.requests ++ s.attempt.pending ∷ [] else s.requests)
unfolding shifts
shifts_has s false = refl
shifts_has s true = accepts_has s reason.Contended

attempted_has : (s : SessionState) (has_shifted : Bool) (its : TryAnswer) → Has (attempted s has_shifted its) (if is_accepted has_shifted its then s.requests ++ s.attempt.pending ∷ [] else s.requests)
attempted_has s has_shifted (tried.Done reply) = either_has (is_read s.op) (answers s told.Absent) (update_done s reply) s.requests refl refl
attempted_has s has_shifted (tried.Found value) = refl
attempted_has s has_shifted tried.Absent = refl
attempted_has s has_shifted (tried.Wait why) = accepts_has s why
attempted_has s has_shifted (tried.AwaitsDisk sought) = accepts_has s reason.Disk
attempted_has s has_shifted tried.Shift = shifts_has s has_shifted
attempted_has s has_shifted tried.IndexFull = refl
attempted_has s has_shifted tried.LogFull = refl

attempt_has : (s : SessionState) (has_shifted : Bool) (ask : Ask TryAnswer) → Has (attempt_ledto s has_shifted ask) (with_accepted s.requests s.attempt.pending has_shifted ask)
unfolding attempt_ledto
attempt_has s has_shifted (Done its) = attempted_has (attempt_left s) has_shifted its
attempt_has s has_shifted ask = refl

caught_up_has : (k : Seat) (s : SessionState) (cause : CatchCause) → Has (caught_up k s cause) s.requests
caught_up_has k s Refreshes = refl
caught_up_has k s Wakes = refl
caught_up_has k s Shifts = attempts_has k s true

catch_has : (k : Seat) (s : SessionState) (cause : CatchCause) (ask : Ask (Unit {0})) → Has (catch_ledto k s cause ask) s.requests
unfolding catch_ledto
catch_has k s cause (Done its) = caught_up_has k (record s { seen = s.catching.seen }) cause
catch_has k s cause ask = refl

clear_has : (k : Seat) (s : SessionState) (ask : Ask MailAnswer) → Has (clear_ledto k s ask) s.requests
unfolding clear_ledto
clear_has k s (Done Cleared) = polls_has k (record s { is_orphaned = false }) 0
clear_has k s (Done its) = polls_has k s 0
clear_has k s ask = refl

finishes_has : (k : Seat) (s : SessionState) (i : ℕ) (its : TryAnswer) → Has (finishes_request k s i its) (remove s.requests i)
unfolding finishes_request
finishes_has k s i its = either_has (is_owed s) (request_finished s i its) (polls_at k (request_finished s i its) i) (remove s.requests i) refl (polls_has k (request_finished s i its) i)

keeps_has : (k : Seat) (s : SessionState) (i : ℕ) (its : TryAnswer) → Has (keeps_request k s i its) (slice_set s.requests i s.attempt.pending)
unfolding keeps_request
keeps_has k s i its = polls_has k (record s { requests = slice_set s.requests i s.attempt.pending; wants_turn = s.wants_turn || lacks_room its }) (i + 1)

polled_has : (k : Seat) (s : SessionState) (i : ℕ) (its : TryAnswer) (c : Bool) → Has (if c then finishes_request k s i its else keeps_request k s i its) (if c then remove s.requests i else slice_set s.requests i s.attempt.pending)
polled_has k s i its true = finishes_has k s i its
polled_has k s i its false = keeps_has k s i its

poll_has : (k : Seat) (s : SessionState) (i : ℕ) (ask : Ask TryAnswer) → Has (poll_ledto k s i ask) (with_polled s.requests s.attempt.pending i ask)
unfolding poll_ledto
poll_has k s i (Done its) = polled_has k (poll_left s) i its (is_finished its)
poll_has k s i ask = refl

turned_has : (s : SessionState) (its : Told) (ask : Ask (Unit {0})) → Has (turn_ledto s its ask) s.requests
unfolding turn_ledto
turned_has s its (Done through) = refl
turned_has s its ask = refl

left_has : (s : SessionState) (ask : Ask (Unit {0})) → Has (leave_ledto s ask) s.requests
unfolding leave_ledto
left_has s (Done its) = refl
left_has s ask = refl

-- ---- each reply
sitting_has : (k : Seat) (s : SessionState) (asks : ℕ) (step : Sitting) (reply : ℕ) → Has (sitting_next k (record s { asks = asks; effect = None }) step reply) (requests_at k s step reply)
unfolding sitting_next
sitting_has k s asks (Idle its) reply = refl
sitting_has k s asks (Attempts has_shifted) reply = attempt_has (attempt_moved k (record s { asks = asks; effect = None }) reply) has_shifted (attempt_comes_to k s reply)
sitting_has k s asks (CatchesUp cause) reply = catch_has k (caught k (record s { asks = asks; effect = None }) reply) cause _
sitting_has k s asks ClearsMail reply = clear_has k (record s { asks = asks; effect = None; mailing = mail_next s.mailing reply }) (mail_ask k.number (mail_next s.mailing reply))
sitting_has k s asks (Polls i) reply = poll_has k (attempt_moved k (record s { asks = asks; effect = None }) reply) i (attempt_comes_to k s reply)
sitting_has k s asks (StoresOwing i) reply = polls_has k (record s { asks = asks; effect = None }) i
sitting_has k s asks (Turns its) reply = turned_has (own_turn_moved k (record s { asks = asks; effect = None }) reply) its _
sitting_has k s asks StoresCut reply = refl
sitting_has k s asks Leaves reply = left_has (record s { asks = asks; effect = None; leaving = leave_next s.leaving }) (leave_ask k.number (leave_next s.leaving))
sitting_has k s asks LoadsDurable reply = refl

pub next_requests : (k : Seat) (s : SessionState) (reply : ℕ) → (session_next k s reply).requests ≡ requests_after k s reply
next_requests k s reply = sitting_has k s (asks_after s.asks (is_word_ask (session_ask k s))) s.step reply

-- ---- each call and each action
op_has : (k : Seat) (s : SessionState) (op : Op) (why : Option Fault) → Has (op_begun k s op why) s.requests
unfolding op_begun
op_has k s op (Some why) = refl
op_has k s op None = attempts_has k (record s { op = op }) false

clears_has : (k : Seat) (s : SessionState) → Has (poll_begun k s) s.requests
clears_has k s = either_has s.is_orphaned (record s { mailing = LoadsState Clear; step = ClearsMail }) (polls_at k s 0) s.requests refl (polls_has k s 0)

call_has : (k : Seat) (s : SessionState) (its : Call) → Has (call_begun k s its) s.requests
unfolding refresh_call poll_call sleep_call wake_call
call_has k s (call.Op op) = op_has k s op (refusal_of s op)
call_has k s call.Refresh = either_has s.is_awake (record s { catching = refresh_begun s.catching s.seen s.serial; step = CatchesUp Refreshes }) (refuses s fault.Asleep) s.requests refl refl
call_has k s call.Poll = either_has s.is_awake (poll_begun k (record s { finished = [] })) (refuses s fault.Asleep) s.requests (clears_has k (record s { finished = [] })) refl
call_has k s call.Sleep =
    either_has (not s.is_awake) (refuses s fault.Asleep) (if length s.requests == 0 then record s { step = StoresCut } else refuses s fault.PendingLeft) s.requests refl
    (either_has (length s.requests == 0) (record s { step = StoresCut }) (refuses s fault.PendingLeft) s.requests refl refl)
call_has k s call.Wake = either_has s.is_awake (refuses s fault.Awake) (record s { catching = wake_begun s.catching s.seen s.serial; step = CatchesUp Wakes }) s.requests refl refl
call_has k s call.Durable = refl

pub begun_requests : (k : Seat) (s : SessionState) (its : Call) → (session_begun k s its).requests ≡ s.requests
begun_requests k s its = call_has k (record s { asks = 0; effect = None; wants_turn = false }) its

action_has : (k : Seat) (s : SessionState) (step : Sitting) (action : Action) → Has (sitting_given k s step action) s.requests
unfolding sitting_given
action_has k s (Turns its) action = turned_has (record s { own_turn = own_turn_given s.own_turn action }) its (own_turn_ask k.shape (own_turn_given s.own_turn action))
action_has k s step action = refl

pub given_requests : (k : Seat) (s : SessionState) (action : Action) → (session_given k s action).requests ≡ s.requests
given_requests k s action = action_has k s s.step action

-- ---- how the list moves
latched_move : (before : List PendingRequest) (i : ℕ) (found : Option PendingRequest) → slice_get before i ≡ found → RequestsMove before (latched before i found)
latched_move before i None got = Stay refl
latched_move before i (Some its) got = OneLatches (record { index = i; pending = its; waits = got; so = refl })

marked_move : (before : List PendingRequest) (i : ℕ) (ask : Ask LatchAnswer) → RequestsMove before (latch_marked before i ask)
unfolding latch_marked
marked_move before i (Done LatchTaken) = latched_move before i (slice_get before i) refl
marked_move before i ask = Stay refl

caught_move : (c : CatchState) (before : List PendingRequest) (step : Catching) (reply : ℕ) → RequestsMove before (catching_requests c before step reply)
unfolding catching_requests
caught_move c before (Latches i) reply = marked_move before i (latch_next_ask c.latching reply)
caught_move c before step reply = Stay refl

accepted_move : (before : List PendingRequest) (its : PendingRequest) (has_shifted : Bool) (ask : Ask TryAnswer) → RequestsMove before (with_accepted before its has_shifted ask)
accepted_move before its has_shifted (Done comes) = by_test (is_accepted has_shifted comes)
  where
    by_test : (c : Bool) → RequestsMove before (if c then before ++ its ∷ [] else before)
    by_test true = OneComes its refl
    by_test false = Stay refl
accepted_move before its has_shifted ask = Stay refl

polled_move : (before : List PendingRequest) (its : PendingRequest) (i : ℕ) (ask : Ask TryAnswer) → RequestsMove before (with_polled before its i ask)
polled_move before its i (Done comes) = by_test (is_finished comes)
  where
    by_test : (c : Bool) → RequestsMove before (if c then remove before i else slice_set before i its)
    by_test true = OneGoes i refl
    by_test false = OneIsSet i its refl
polled_move before its i ask = Stay refl

at_move : (k : Seat) (s : SessionState) (step : Sitting) (reply : ℕ) → RequestsMove s.requests (requests_at k s step reply)
at_move k s (Attempts has_shifted) reply = accepted_move s.requests (attempt_after k s reply).pending has_shifted (attempt_comes_to k s reply)
at_move k s (CatchesUp cause) reply = caught_move s.catching s.requests s.catching.step reply
at_move k s (Polls i) reply = polled_move s.requests (attempt_after k s reply).pending i (attempt_comes_to k s reply)
at_move k s step reply = Stay refl

pub next_moves : (k : Seat) (s : SessionState) (reply : ℕ) → RequestsMove s.requests (session_next k s reply).requests
next_moves k s reply = subst (λ (after : List PendingRequest). RequestsMove s.requests after) (sym (next_requests k s reply)) (at_move k s s.step reply)
