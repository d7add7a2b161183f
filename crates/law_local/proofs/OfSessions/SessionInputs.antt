-- While a session attempts, its attempt is of the request that it should be, and goes by what the session has seen.
use Rattle.std.proofs.Common.{◌≡◌, ℕ, ◌+◌, ◌∙◌, refl, sym, ap, subst, Bool, true, false, List, [], ◌∷◌, length}
use Rattle.std.specs.Prelude.{Option, Some, None, if◌then◌else◌, not, ◌==◌, ◌||◌, slice_get, slice_set}
use Rattle.fkv_base.specs.declared.faults.Fault.{Fault}
use Rattle.fkv_base.specs.declared.faults.Fault.TheVariants as fault
use Rattle.fkv_map.specs.declared.operations.Call.{Call}
use Rattle.fkv_map.specs.declared.operations.Call.TheVariants as call
use Rattle.fkv_map.specs.declared.operations.Op.{Op}
use Rattle.fkv_plane.specs.declared.actions.Action.{Action}
use Rattle.fkv_plane.specs.declared.asks.Ask.{Ask}
use Rattle.fkv_plane.specs.declared.asks.Ask.TheVariants.{Done}
use Rattle.fkv_epoch.specs.Leaving.{leave_ask, leave_next}
use Rattle.fkv_ops.specs.declared.answers.Reason.{Reason}
use Rattle.fkv_ops.specs.declared.answers.Reason.TheVariants as reason
use Rattle.fkv_ops.specs.declared.answers.TryAnswer.{TryAnswer}
use Rattle.fkv_ops.specs.declared.answers.TryAnswer.TheVariants as tried
use Rattle.fkv_ops.specs.declared.requests.Occasion.TheVariants.{Call as AtCall, Poll as AtPoll}
use Rattle.fkv_ops.specs.Requests.{is_read}
use Rattle.fkv_pending.specs.declared.mailing.MailAnswer.{MailAnswer}
use Rattle.fkv_pending.specs.declared.mailing.MailAnswer.TheVariants.{Cleared}
use Rattle.fkv_pending.specs.declared.mailing.MailTask.TheVariants.{Clear}
use Rattle.fkv_pending.specs.declared.mailing.Mailing.TheVariants.{LoadsState}
use Rattle.fkv_pending.specs.declared.pending_requests.PendingRequest.{PendingRequest}
use Rattle.fkv_pending.specs.Mailing.{mail_ask, mail_next}
use Rattle.fkv_session.specs.declared.answers.Told.{Told}
use Rattle.fkv_session.specs.declared.answers.Told.TheVariants as told
use Rattle.fkv_session.specs.declared.sessions.CatchCause.{CatchCause}
use Rattle.fkv_session.specs.declared.sessions.CatchCause.TheVariants.{Refreshes, Wakes, Shifts}
use Rattle.fkv_session.specs.declared.sessions.Sitting.{Sitting}
use Rattle.fkv_session.specs.declared.sessions.Sitting.TheVariants.{Idle, Attempts, CatchesUp, ClearsMail, Polls, StoresOwing, Turns, StoresCut, Leaves, LoadsDurable}
use Rattle.fkv_session.specs.CatchingUp.{refresh_begun, wake_begun}
use Rattle.fkv_session.specs.OwnTurns.{own_turn_ask, own_turn_begun, own_turn_given}
use Rattle.fkv_session.specs.SessionRun.{SessionEvent, Begins, Replies, Gets, begins, session_happens, session_run}
use Rattle.fkv_session.specs.Sessions.{SessionState, Seat, bits_of, room_of, is_busy, answers, answers_after_turn, request_in_hand, attempts, polls_request, polls_at, refuses, refusal_of, op_begun, refresh_call, poll_begun, poll_call, sleep_call, wake_call, call_begun, session_begun, session_next, session_given, attempt_left, poll_left, serial_taken, update_done, ticket_after, is_no_room, with_request, accepts, shifts, attempted, attempt_ledto, caught_up, catch_ledto, clear_ledto, is_finished, is_owed, request_finished, finishes_request, lacks_room, keeps_request, poll_ledto, turn_ledto, leave_ledto, attempt_moved, caught, own_turn_moved, sitting_next, sitting_given, asks_after, is_word_ask, session_ask, IsOpened}
use Rattle.fkv_session.proofs.Shown.{attempt_keeps}
use Rattle.law_local.specs.Sessions.Inputs.{IsAttemptAtCall, IsAttemptInPoll, AttemptsBy, AttemptsSo}
use Rattle.law_local.specs.Sessions.Known.{attempt_comes_to}
use Rattle.law_local.proofs.OfSessions.AttemptInputs.{attempt_goes, begun_goes, begun_pending}
use Rattle.fkv_ops.specs.Bounds.{bounds_of}

either_by : (c : Bool) (k : Seat) (a b : SessionState) → AttemptsSo k a → AttemptsSo k b → AttemptsSo k (if c then a else b)
either_by true k a b one other = one
either_by false k a b one other = other

-- a state of this kind
still_by : (k : Seat) (s : SessionState) (step : Sitting) → s.step ≡ step → AttemptsBy k s step → AttemptsSo k s
still_by k s step at its = subst (λ (x : Sitting). AttemptsBy k s x) (sym at) its

turn_by : (k : Seat) (s : SessionState) (its : Told) → AttemptsSo k (answers_after_turn s its)
turn_by k s its = either_by s.wants_turn k (record s { own_turn = own_turn_begun s.own_turn; step = Turns its }) (answers s its) tt tt

-- an attempt begins
attempts_by : (k : Seat) (s : SessionState) (has_shifted : Bool) → AttemptsSo k (attempts k s has_shifted)
unfolding attempts
attempts_by k s has_shifted =
    let same = begun_pending k.places (bits_of k) (request_in_hand s) s.seen (AtCall (bounds_of k.shape)) s.spare s.is_orphaned in
    record {
      goes = begun_goes (bits_of k) s.seen (AtCall (bounds_of k.shape)) k.places (request_in_hand s) s.spare s.is_orphaned;
      same = record {
        name = ap (λ (pending : PendingRequest). pending.name) same;
        op = ap (λ (pending : PendingRequest). pending.request.op) same;
        version = ap (λ (pending : PendingRequest). pending.request.version) same;
      };
    }

polls_found : (k : Seat) (s : SessionState) (i : ℕ) (found : Option PendingRequest) → slice_get s.requests i ≡ found → AttemptsSo k (polls_request k s i found)
polls_found k s i None got = turn_by k s (told.Polled (length s.requests))
polls_found k s i (Some its) got =
    let same = begun_pending k.places (bits_of k) its s.seen AtPoll s.spare s.is_orphaned in
    record {
      goes = begun_goes (bits_of k) s.seen AtPoll k.places its s.spare s.is_orphaned;
      same = record {
        request = its;
        waits = got;
        name = ap (λ (pending : PendingRequest). pending.name) same;
        op = ap (λ (pending : PendingRequest). pending.request.op) same;
        version = ap (λ (pending : PendingRequest). pending.request.version) same;
      };
    }

polls_by : (k : Seat) (s : SessionState) (i : ℕ) → AttemptsSo k (polls_at k s i)
unfolding polls_at
polls_by k s i = polls_found k s i (slice_get s.requests i) refl

-- what an attempt at a call comes to
accepts_by : (k : Seat) (s : SessionState) (why : Reason) → AttemptsSo k (accepts s why)
unfolding accepts
accepts_by k s why =
    let update : SessionState = with_request (serial_taken (record s { wants_turn = is_no_room why })) in
    either_by (is_read s.op) k (answers (with_request (record s { ticket = ticket_after s.ticket })) (told.PendingRead (record { 0 = ticket_after s.ticket }))) (answers_after_turn update (told.Pending (record { 0 = s.serial + 1 }) why)) tt
    (turn_by k update (told.Pending (record { 0 = s.serial + 1 }) why))

shifts_by : (k : Seat) (s : SessionState) (has_shifted : Bool) → AttemptsSo k (shifts s has_shifted)
unfolding shifts
shifts_by k s false = tt
shifts_by k s true = accepts_by k s reason.Contended

attempted_by : (k : Seat) (s : SessionState) (has_shifted : Bool) (its : TryAnswer) → AttemptsSo k (attempted s has_shifted its)
attempted_by k s has_shifted (tried.Done reply) = either_by (is_read s.op) k (answers s told.Absent) (update_done s reply) tt tt
attempted_by k s has_shifted (tried.Found value) = tt
attempted_by k s has_shifted tried.Absent = tt
attempted_by k s has_shifted (tried.Wait why) = accepts_by k s why
attempted_by k s has_shifted (tried.AwaitsDisk sought) = accepts_by k s reason.Disk
attempted_by k s has_shifted tried.Shift = shifts_by k s has_shifted
attempted_by k s has_shifted tried.IndexFull = tt
attempted_by k s has_shifted tried.LogFull = tt

attempt_by : (k : Seat) (s : SessionState) (has_shifted : Bool) (ask : Ask TryAnswer) → s.step ≡ Attempts has_shifted → IsAttemptAtCall k s → AttemptsSo k (attempt_ledto s has_shifted ask)
unfolding attempt_ledto
attempt_by k s has_shifted (Done its) at so = attempted_by k (attempt_left s) has_shifted its
attempt_by k s has_shifted ask at so = still_by k s (Attempts has_shifted) at so

-- what a session that catches up comes to
caught_up_by : (k : Seat) (s : SessionState) (cause : CatchCause) → AttemptsSo k (caught_up k s cause)
caught_up_by k s Refreshes = tt
caught_up_by k s Wakes = tt
caught_up_by k s Shifts = attempts_by k s true

catch_by : (k : Seat) (s : SessionState) (cause : CatchCause) (ask : Ask (Unit {0})) → s.step ≡ CatchesUp cause → AttemptsSo k (catch_ledto k s cause ask)
unfolding catch_ledto
catch_by k s cause (Done its) at = caught_up_by k (record s { seen = s.catching.seen }) cause
catch_by k s cause ask at = still_by k s (CatchesUp cause) at tt

-- what a poll comes to
clear_by : (k : Seat) (s : SessionState) (ask : Ask MailAnswer) → s.step ≡ ClearsMail → AttemptsSo k (clear_ledto k s ask)
unfolding clear_ledto
clear_by k s (Done Cleared) at = polls_by k (record s { is_orphaned = false }) 0
clear_by k s (Done its) at = polls_by k s 0
clear_by k s ask at = still_by k s ClearsMail at tt

finishes_by : (k : Seat) (s : SessionState) (i : ℕ) (its : TryAnswer) → AttemptsSo k (finishes_request k s i its)
unfolding finishes_request
finishes_by k s i its = either_by (is_owed s) k (request_finished s i its) (polls_at k (request_finished s i its) i) tt (polls_by k (request_finished s i its) i)

keeps_by : (k : Seat) (s : SessionState) (i : ℕ) (its : TryAnswer) → AttemptsSo k (keeps_request k s i its)
unfolding keeps_request
keeps_by k s i its = polls_by k (record s { requests = slice_set s.requests i s.attempt.pending; wants_turn = s.wants_turn || lacks_room its }) (i + 1)

poll_by : (k : Seat) (s : SessionState) (i : ℕ) (ask : Ask TryAnswer) → s.step ≡ Polls i → IsAttemptInPoll k s i → AttemptsSo k (poll_ledto k s i ask)
unfolding poll_ledto
poll_by k s i (Done its) at so = either_by (is_finished its) k (finishes_request k (poll_left s) i its) (keeps_request k (poll_left s) i its) (finishes_by k (poll_left s) i its) (keeps_by k (poll_left s) i its)
poll_by k s i ask at so = still_by k s (Polls i) at so

turned_by : (k : Seat) (s : SessionState) (its : Told) (ask : Ask (Unit {0})) → s.step ≡ Turns its → AttemptsSo k (turn_ledto s its ask)
unfolding turn_ledto
turned_by k s its (Done through) at = tt
turned_by k s its ask at = still_by k s (Turns its) at tt

left_by : (k : Seat) (s : SessionState) (ask : Ask (Unit {0})) → s.step ≡ Leaves → AttemptsSo k (leave_ledto s ask)
unfolding leave_ledto
left_by k s (Done its) at = tt
left_by k s ask at = still_by k s Leaves at tt

-- ---- each reply
moved_call : (k : Seat) (s : SessionState) (asks reply : ℕ) → IsAttemptAtCall k s → IsAttemptAtCall k (attempt_moved k (record s { asks = asks; effect = None }) reply)
moved_call k s asks reply its =
    let same = attempt_keeps k.places (bits_of k) (room_of k) k.number s.attempt reply in
    record {
      goes = attempt_goes (bits_of k) s.seen (AtCall (bounds_of k.shape)) k.places (room_of k) k.number s.attempt reply its.goes;
      same = record { name = same.name ∙ its.same.name; op = same.op ∙ its.same.op; version = same.version ∙ its.same.version };
    }

moved_poll : (k : Seat) (s : SessionState) (i asks reply : ℕ) → IsAttemptInPoll k s i → IsAttemptInPoll k (attempt_moved k (record s { asks = asks; effect = None }) reply) i
moved_poll k s i asks reply its =
    let same = attempt_keeps k.places (bits_of k) (room_of k) k.number s.attempt reply in
    record {
      goes = attempt_goes (bits_of k) s.seen AtPoll k.places (room_of k) k.number s.attempt reply its.goes;
      same = record { request = its.same.request; waits = its.same.waits; name = same.name ∙ its.same.name; op = same.op ∙ its.same.op; version = same.version ∙ its.same.version };
    }

sitting_by : (k : Seat) (s : SessionState) (asks : ℕ) (step : Sitting) (reply : ℕ) → s.step ≡ step → AttemptsBy k s step → AttemptsSo k (sitting_next k (record s { asks = asks; effect = None }) step reply)
unfolding sitting_next
sitting_by k s asks (Idle its) reply at so = still_by k (record s { asks = asks; effect = None }) (Idle its) at tt
sitting_by k s asks (Attempts has_shifted) reply at so = attempt_by k (attempt_moved k (record s { asks = asks; effect = None }) reply) has_shifted (attempt_comes_to k s reply) at (moved_call k s asks reply so)
sitting_by k s asks (CatchesUp cause) reply at so = catch_by k (caught k (record s { asks = asks; effect = None }) reply) cause _ at
sitting_by k s asks ClearsMail reply at so = clear_by k (record s { asks = asks; effect = None; mailing = mail_next s.mailing reply }) (mail_ask k.number (mail_next s.mailing reply)) at
sitting_by k s asks (Polls i) reply at so = poll_by k (attempt_moved k (record s { asks = asks; effect = None }) reply) i (attempt_comes_to k s reply) at (moved_poll k s i asks reply so)
sitting_by k s asks (StoresOwing i) reply at so = polls_by k (record s { asks = asks; effect = None }) i
sitting_by k s asks (Turns its) reply at so = turned_by k (own_turn_moved k (record s { asks = asks; effect = None }) reply) its _ at
sitting_by k s asks StoresCut reply at so = tt
sitting_by k s asks Leaves reply at so = left_by k (record s { asks = asks; effect = None; leaving = leave_next s.leaving }) (leave_ask k.number (leave_next s.leaving)) at
sitting_by k s asks LoadsDurable reply at so = tt

pub next_so : (k : Seat) (s : SessionState) (reply : ℕ) → AttemptsSo k s → AttemptsSo k (session_next k s reply)
next_so k s reply so = sitting_by k s (asks_after s.asks (is_word_ask (session_ask k s))) s.step reply refl so

-- ---- each call and each action
op_by : (k : Seat) (s : SessionState) (op : Op) (why : Option Fault) → AttemptsSo k (op_begun k s op why)
unfolding op_begun
op_by k s op (Some why) = tt
op_by k s op None = attempts_by k (record s { op = op }) false

clears_by : (k : Seat) (s : SessionState) → AttemptsSo k (poll_begun k s)
clears_by k s = either_by s.is_orphaned k (record s { mailing = LoadsState Clear; step = ClearsMail }) (polls_at k s 0) tt (polls_by k s 0)

call_by : (k : Seat) (s : SessionState) (its : Call) → AttemptsSo k (call_begun k s its)
unfolding refresh_call poll_call sleep_call wake_call
call_by k s (call.Op op) = op_by k s op (refusal_of s op)
call_by k s call.Refresh = either_by s.is_awake k (record s { catching = refresh_begun s.catching s.seen s.serial; step = CatchesUp Refreshes }) (refuses s fault.Asleep) tt tt
call_by k s call.Poll = either_by s.is_awake k (poll_begun k (record s { finished = [] })) (refuses s fault.Asleep) (clears_by k (record s { finished = [] })) tt
call_by k s call.Sleep =
    either_by (not s.is_awake) k (refuses s fault.Asleep) (if length s.requests == 0 then record s { step = StoresCut } else refuses s fault.PendingLeft) tt
    (either_by (length s.requests == 0) k (record s { step = StoresCut }) (refuses s fault.PendingLeft) tt tt)
call_by k s call.Wake = either_by s.is_awake k (refuses s fault.Awake) (record s { catching = wake_begun s.catching s.seen s.serial; step = CatchesUp Wakes }) tt tt
call_by k s call.Durable = tt

pub begun_so : (k : Seat) (s : SessionState) (its : Call) → AttemptsSo k (session_begun k s its)
begun_so k s its = call_by k (record s { asks = 0; effect = None; wants_turn = false }) its

action_by : (k : Seat) (s : SessionState) (step : Sitting) (action : Action) → s.step ≡ step → AttemptsBy k s step → AttemptsSo k (sitting_given k s step action)
unfolding sitting_given
action_by k s (Turns its) action at so = turned_by k (record s { own_turn = own_turn_given s.own_turn action }) its (own_turn_ask k.shape (own_turn_given s.own_turn action)) at
action_by k s step action at so = still_by k s step at so

pub given_so : (k : Seat) (s : SessionState) (action : Action) → AttemptsSo k s → AttemptsSo k (session_given k s action)
given_so k s action so = action_by k s s.step action refl so

-- ---- over a run
idle_by : (k : Seat) (s : SessionState) (step : Sitting) → is_busy step ≡ false → AttemptsBy k s step
idle_by k s (Attempts has_shifted) idle = cc
idle_by k s (Polls i) idle = cc
idle_by k s step idle = tt

-- a session with no call in hand
pub opened_so : (k : Seat) (s : SessionState) → is_busy s.step ≡ false → AttemptsSo k s
opened_so k s idle = idle_by k s s.step idle

begins_by : (k : Seat) (s : SessionState) (busy : Bool) (its : Call) → AttemptsSo k s → AttemptsSo k (begins k s busy its)
begins_by k s true its so = so
begins_by k s false its so = begun_so k s its

event_by : (k : Seat) (s : SessionState) (event : SessionEvent) → AttemptsSo k s → AttemptsSo k (session_happens k s event)
unfolding session_happens
event_by k s (Begins its) so = begins_by k s (is_busy s.step) its so
event_by k s (Replies reply) so = next_so k s reply so
event_by k s (Gets action) so = given_so k s action so

pub run_so : (k : Seat) (opening : SessionState) (events : List SessionEvent) → IsOpened opening → AttemptsSo k (session_run k opening events)
unfolding session_run
run_so k opening [] opened = opened_so k opening opened.none_in_hand
run_so k opening (event ∷ before) opened = event_by k (session_run k opening before) event (run_so k opening before opened)

-- ---- by the control state
call_at : (k : Seat) (s : SessionState) (step : Sitting) (has_shifted : Bool) → step ≡ Attempts has_shifted → AttemptsBy k s step → IsAttemptAtCall k s
call_at k s (Attempts shifted) has_shifted at so = so
call_at k s step has_shifted at so = cc

pub attempt_at_call : (k : Seat) (s : SessionState) (has_shifted : Bool) → s.step ≡ Attempts has_shifted → AttemptsSo k s → IsAttemptAtCall k s
attempt_at_call k s has_shifted at so = call_at k s s.step has_shifted at so

poll_at : (k : Seat) (s : SessionState) (step : Sitting) (i : ℕ) → step ≡ Polls i → AttemptsBy k s step → IsAttemptInPoll k s i
poll_at k s (Polls index) i at so = let same : index ≡ i = cc in subst (λ (x : ℕ). IsAttemptInPoll k s x) same so
poll_at k s step i at so = cc

pub attempt_in_poll : (k : Seat) (s : SessionState) (i : ℕ) → s.step ≡ Polls i → AttemptsSo k s → IsAttemptInPoll k s i
attempt_in_poll k s i at so = poll_at k s s.step i at so
