-- At every moment of a session's run what it changes in place lies at or above the read-only offset that it has seen.
use Rattle.std.proofs.Common.{◌≡◌, ℕ, ◌+◌, refl, sym, subst, List, [], ◌∷◌, length, Bool, true, false}
use Rattle.std.specs.Prelude.{if◌then◌else◌, ◌==◌, ◌||◌, not, ⊤, Option, Some, None, slice_get, slice_set}
use Rattle.fkv_base.specs.declared.faults.Fault.{Fault}
use Rattle.fkv_base.specs.declared.faults.Fault.TheVariants as fault
use Rattle.fkv_map.specs.declared.operations.Call.{Call}
use Rattle.fkv_map.specs.declared.operations.Call.TheVariants as call
use Rattle.fkv_map.specs.declared.operations.Op.{Op}
use Rattle.fkv_plane.specs.declared.actions.Action.{Action}
use Rattle.fkv_plane.specs.declared.asks.Ask.{Ask}
use Rattle.fkv_plane.specs.declared.asks.Ask.TheVariants.{Done}
use Rattle.fkv_epoch.specs.Leaving.{leave_next}
use Rattle.fkv_ops.specs.declared.answers.Reason.{Reason}
use Rattle.fkv_ops.specs.declared.answers.Reason.TheVariants as reason
use Rattle.fkv_ops.specs.declared.answers.TryAnswer.{TryAnswer}
use Rattle.fkv_ops.specs.declared.answers.TryAnswer.TheVariants as tried
use Rattle.fkv_ops.specs.declared.requests.Occasion.TheVariants.{Call as AtCall, Poll as AtPoll}
use Rattle.fkv_ops.specs.Requests.{is_read}
use Rattle.fkv_pending.specs.declared.mailing.MailAnswer.{MailAnswer}
use Rattle.fkv_pending.specs.declared.mailing.MailAnswer.TheVariants.{Cleared}
use Rattle.fkv_pending.specs.declared.mailing.MailTask.TheVariants.{Clear}
use Rattle.fkv_pending.specs.declared.mailing.Mailing.TheVariants.{LoadsState}
use Rattle.fkv_pending.specs.declared.pending_requests.PendingRequest.{PendingRequest}
use Rattle.fkv_pending.specs.Mailing.{mail_next}
use Rattle.fkv_session.specs.declared.answers.Told.{Told}
use Rattle.fkv_session.specs.declared.answers.Told.TheVariants as told
use Rattle.fkv_session.specs.declared.sessions.CatchCause.{CatchCause}
use Rattle.fkv_session.specs.declared.sessions.CatchCause.TheVariants.{Refreshes, Wakes, Shifts}
use Rattle.fkv_session.specs.declared.sessions.Sitting.{Sitting}
use Rattle.fkv_session.specs.declared.sessions.Sitting.TheVariants.{Idle, Attempts, CatchesUp, ClearsMail, Polls, StoresOwing, Turns, StoresCut, Leaves, LoadsDurable}
use Rattle.fkv_session.specs.CatchingUp.{refresh_begun, wake_begun}
use Rattle.fkv_session.specs.OwnTurns.{own_turn_begun, own_turn_given}
use Rattle.fkv_session.specs.Sessions.{SessionState, Seat, IsOpened, bits_of, room_of, answers, refuses, answers_after_turn, request_in_hand, attempts, polls_request, polls_at, refusal_of, op_begun, refresh_call, poll_begun, poll_call, sleep_call, wake_call, call_begun, ticket_after, attempt_left, serial_taken, update_done, is_no_room, lacks_room, with_request, accepts, shifts, attempted, attempt_ledto, caught_up, catch_ledto, clear_ledto, is_finished, is_owed, request_finished, finishes_request, keeps_request, poll_left, poll_ledto, turn_ledto, leave_ledto, attempt_moved, caught, own_turn_moved, session_ask, sitting_next, session_next, sitting_given, session_given, asks_after, is_word_ask, is_busy}
use Rattle.fkv_session.specs.SessionRun.{SessionEvent, Begins, Replies, Gets, begins, session_happens, session_run}
use Rattle.law_world.proofs.OfGuardSessions.AttemptsSeen.{IsAttemptAbove, attempt_begun_above, attempt_next_above}
use Rattle.fkv_ops.specs.Bounds.{bounds_of}

-- an attempt goes by what the session has seen
abbrev pub SittingAbove : SessionState → Sitting → Type 0
SittingAbove s (Attempts has_shifted) = IsAttemptAbove s.seen s.attempt
SittingAbove s (Polls index) = IsAttemptAbove s.seen s.attempt
SittingAbove s step = ⊤

abbrev pub IsSessionAbove : SessionState → Type 0
IsSessionAbove s = SittingAbove s s.step

-- where a call and a reply lead
either_above : (c : Bool) (a b : SessionState) → IsSessionAbove a → IsSessionAbove b → IsSessionAbove (if c then a else b)
either_above true a b one other = one
either_above false a b one other = other

stays_above : (s : SessionState) (step : Sitting) → s.step ≡ step → SittingAbove s step → IsSessionAbove s
stays_above s step at above = subst (λ x. SittingAbove s x) (sym at) above

turn_after_above : (s : SessionState) (its : Told) → IsSessionAbove (answers_after_turn s its)
turn_after_above s its = either_above s.wants_turn (record s { own_turn = own_turn_begun s.own_turn; step = Turns its }) (answers s its) tt tt

attempts_above : (k : Seat) (s : SessionState) (has_shifted : Bool) → IsSessionAbove (attempts k s has_shifted)
unfolding attempts
attempts_above k s has_shifted = attempt_begun_above k.places (bits_of k) (request_in_hand s) s.seen (AtCall (bounds_of k.shape)) s.spare s.is_orphaned

polls_request_above : (k : Seat) (s : SessionState) (index : ℕ) (found : Option PendingRequest) → IsSessionAbove (polls_request k s index found)
polls_request_above k s index None = turn_after_above s (told.Polled (length s.requests))
polls_request_above k s index (Some pending) = attempt_begun_above k.places (bits_of k) pending s.seen AtPoll s.spare s.is_orphaned

polls_above : (k : Seat) (s : SessionState) (index : ℕ) → IsSessionAbove (polls_at k s index)
unfolding polls_at
polls_above k s index = polls_request_above k s index (slice_get s.requests index)

accepts_above : (s : SessionState) (why : Reason) → IsSessionAbove (accepts s why)
unfolding accepts
accepts_above s why =
    either_above (is_read s.op) (answers (with_request (record s { ticket = ticket_after s.ticket })) (told.PendingRead (record { 0 = ticket_after s.ticket })))
    (answers_after_turn (with_request (serial_taken (record s { wants_turn = is_no_room why }))) (told.Pending (record { 0 = s.serial + 1 }) why))
    tt (turn_after_above (with_request (serial_taken (record s { wants_turn = is_no_room why }))) (told.Pending (record { 0 = s.serial + 1 }) why))

shifts_above : (s : SessionState) (has_shifted : Bool) → IsSessionAbove (shifts s has_shifted)
unfolding shifts
shifts_above s false = tt
shifts_above s true = accepts_above s reason.Contended

attempted_above : (s : SessionState) (has_shifted : Bool) (its : TryAnswer) → IsSessionAbove (attempted s has_shifted its)
attempted_above s has_shifted (tried.Done reply) = either_above (is_read s.op) (answers s told.Absent) (update_done s reply) tt tt
attempted_above s has_shifted (tried.Found value) = tt
attempted_above s has_shifted tried.Absent = tt
attempted_above s has_shifted (tried.Wait why) = accepts_above s why
attempted_above s has_shifted (tried.AwaitsDisk sought) = accepts_above s reason.Disk
attempted_above s has_shifted tried.Shift = shifts_above s has_shifted
attempted_above s has_shifted tried.IndexFull = tt
attempted_above s has_shifted tried.LogFull = tt

attempt_ledto_above : (s : SessionState) (has_shifted : Bool) (ask : Ask TryAnswer) → s.step ≡ Attempts has_shifted → IsAttemptAbove s.seen s.attempt → IsSessionAbove (attempt_ledto s has_shifted ask)
unfolding attempt_ledto
attempt_ledto_above s has_shifted (Done its) at above = attempted_above (attempt_left s) has_shifted its
attempt_ledto_above s has_shifted ask at above = stays_above s (Attempts has_shifted) at above

finishes_above : (k : Seat) (s : SessionState) (index : ℕ) (its : TryAnswer) → IsSessionAbove (finishes_request k s index its)
unfolding finishes_request
finishes_above k s index its = either_above (is_owed s) (request_finished s index its) (polls_at k (request_finished s index its) index) tt (polls_above k (request_finished s index its) index)

keeps_above : (k : Seat) (s : SessionState) (index : ℕ) (its : TryAnswer) → IsSessionAbove (keeps_request k s index its)
unfolding keeps_request
keeps_above k s index its = polls_above k (record s { requests = slice_set s.requests index s.attempt.pending; wants_turn = s.wants_turn || lacks_room its }) (index + 1)

poll_ledto_above : (k : Seat) (s : SessionState) (index : ℕ) (ask : Ask TryAnswer) → s.step ≡ Polls index → IsAttemptAbove s.seen s.attempt → IsSessionAbove (poll_ledto k s index ask)
unfolding poll_ledto
poll_ledto_above k s index (Done its) at above = either_above (is_finished its) (finishes_request k (poll_left s) index its) (keeps_request k (poll_left s) index its) (finishes_above k (poll_left s) index its) (keeps_above k (poll_left s) index its)
poll_ledto_above k s index ask at above = stays_above s (Polls index) at above

caught_up_above : (k : Seat) (s : SessionState) (cause : CatchCause) → IsSessionAbove (caught_up k s cause)
caught_up_above k s Refreshes = tt
caught_up_above k s Wakes = tt
caught_up_above k s Shifts = attempts_above k s true

catch_ledto_above : (k : Seat) (s : SessionState) (cause : CatchCause) (ask : Ask (Unit {0})) → s.step ≡ CatchesUp cause → IsSessionAbove (catch_ledto k s cause ask)
unfolding catch_ledto
catch_ledto_above k s cause (Done its) at = caught_up_above k (record s { seen = s.catching.seen }) cause
catch_ledto_above k s cause ask at = stays_above s (CatchesUp cause) at tt

clear_above : (k : Seat) (s : SessionState) (ask : Ask MailAnswer) → s.step ≡ ClearsMail → IsSessionAbove (clear_ledto k s ask)
unfolding clear_ledto
clear_above k s (Done Cleared) at = polls_above k (record s { is_orphaned = false }) 0
clear_above k s (Done its) at = polls_above k s 0
clear_above k s ask at = stays_above s ClearsMail at tt

turn_ledto_above : (s : SessionState) (its : Told) (ask : Ask (Unit {0})) → s.step ≡ Turns its → IsSessionAbove (turn_ledto s its ask)
unfolding turn_ledto
turn_ledto_above s its (Done through) at = tt
turn_ledto_above s its ask at = stays_above s (Turns its) at tt

leave_ledto_above : (s : SessionState) (ask : Ask (Unit {0})) → s.step ≡ Leaves → IsSessionAbove (leave_ledto s ask)
unfolding leave_ledto
leave_ledto_above s (Done its) at = tt
leave_ledto_above s ask at = stays_above s Leaves at tt

next_above : (k : Seat) (s : SessionState) (step : Sitting) (reply : ℕ) → s.step ≡ step → SittingAbove s step → IsSessionAbove (sitting_next k s step reply)
unfolding sitting_next
next_above k s (Idle its) reply at above = stays_above s (Idle its) at tt
next_above k s (Attempts has_shifted) reply at above = attempt_ledto_above (attempt_moved k s reply) has_shifted _ at (attempt_next_above k.places (bits_of k) (room_of k) k.number s.seen s.attempt reply above)
next_above k s (CatchesUp cause) reply at above = catch_ledto_above k (caught k s reply) cause _ at
next_above k s ClearsMail reply at above = clear_above k (record s { mailing = mail_next s.mailing reply }) _ at
next_above k s (Polls index) reply at above = poll_ledto_above k (attempt_moved k s reply) index _ at (attempt_next_above k.places (bits_of k) (room_of k) k.number s.seen s.attempt reply above)
next_above k s (StoresOwing index) reply at above = polls_above k s index
next_above k s (Turns its) reply at above = turn_ledto_above (own_turn_moved k s reply) its _ at
next_above k s StoresCut reply at above = tt
next_above k s Leaves reply at above = leave_ledto_above (record s { leaving = leave_next s.leaving }) _ at
next_above k s LoadsDurable reply at above = tt

counted_above : (s : SessionState) (asks : ℕ) (step : Sitting) → SittingAbove s step → SittingAbove (record s { asks = asks; effect = None }) step
counted_above s asks (Attempts has_shifted) above = above
counted_above s asks (Polls index) above = above
counted_above s asks (Turns its) above = tt
counted_above s asks (Idle its) above = tt
counted_above s asks (CatchesUp cause) above = tt
counted_above s asks ClearsMail above = tt
counted_above s asks (StoresOwing index) above = tt
counted_above s asks StoresCut above = tt
counted_above s asks Leaves above = tt
counted_above s asks LoadsDurable above = tt

session_next_above : (k : Seat) (s : SessionState) (reply : ℕ) → IsSessionAbove s → IsSessionAbove (session_next k s reply)
session_next_above k s reply above =
    let asks : ℕ = asks_after s.asks (is_word_ask (session_ask k s)) in
    next_above k (record s { asks = asks; effect = None }) s.step reply refl (counted_above s asks s.step above)

given_above : (k : Seat) (s : SessionState) (step : Sitting) (action : Action) → s.step ≡ step → SittingAbove s step → IsSessionAbove (sitting_given k s step action)
unfolding sitting_given
given_above k s (Turns its) action at above = turn_ledto_above (record s { own_turn = own_turn_given s.own_turn action }) its _ at
given_above k s (Idle its) action at above = stays_above s (Idle its) at above
given_above k s (Attempts has_shifted) action at above = stays_above s (Attempts has_shifted) at above
given_above k s (CatchesUp cause) action at above = stays_above s (CatchesUp cause) at above
given_above k s ClearsMail action at above = stays_above s ClearsMail at above
given_above k s (Polls index) action at above = stays_above s (Polls index) at above
given_above k s (StoresOwing index) action at above = stays_above s (StoresOwing index) at above
given_above k s StoresCut action at above = stays_above s StoresCut at above
given_above k s Leaves action at above = stays_above s Leaves at above
given_above k s LoadsDurable action at above = stays_above s LoadsDurable at above

session_given_above : (k : Seat) (s : SessionState) (action : Action) → IsSessionAbove s → IsSessionAbove (session_given k s action)
session_given_above k s action above = given_above k s s.step action refl above

-- a call
op_above : (k : Seat) (s : SessionState) (op : Op) (why : Option Fault) → IsSessionAbove (op_begun k s op why)
unfolding op_begun
op_above k s op (Some why) = tt
op_above k s op None = attempts_above k (record s { op = op }) false

refresh_called_above : (s : SessionState) → IsSessionAbove (refresh_call s)
unfolding refresh_call
refresh_called_above s = either_above s.is_awake (record s { catching = refresh_begun s.catching s.seen s.serial; step = CatchesUp Refreshes }) (refuses s fault.Asleep) tt tt

poll_begun_above : (k : Seat) (s : SessionState) → IsSessionAbove (poll_begun k s)
poll_begun_above k s = either_above s.is_orphaned (record s { mailing = LoadsState Clear; step = ClearsMail }) (polls_at k s 0) tt (polls_above k s 0)

poll_called_above : (k : Seat) (s : SessionState) → IsSessionAbove (poll_call k s)
unfolding poll_call
poll_called_above k s = either_above s.is_awake (poll_begun k (record s { finished = [] })) (refuses s fault.Asleep) (poll_begun_above k (record s { finished = [] })) tt

sleep_above : (s : SessionState) → IsSessionAbove (sleep_call s)
unfolding sleep_call
sleep_above s = either_above (not s.is_awake) (refuses s fault.Asleep) _ tt (either_above (length s.requests == 0) (record s { step = StoresCut }) (refuses s fault.PendingLeft) tt tt)

wake_above : (s : SessionState) → IsSessionAbove (wake_call s)
unfolding wake_call
wake_above s = either_above s.is_awake (refuses s fault.Awake) (record s { catching = wake_begun s.catching s.seen s.serial; step = CatchesUp Wakes }) tt tt

call_above : (k : Seat) (s : SessionState) (its : Call) → IsSessionAbove (call_begun k s its)
call_above k s (call.Op op) = op_above k s op (refusal_of s op)
call_above k s call.Refresh = refresh_called_above s
call_above k s call.Poll = poll_called_above k s
call_above k s call.Sleep = sleep_above s
call_above k s call.Wake = wake_above s
call_above k s call.Durable = tt

begins_above : (k : Seat) (s : SessionState) (busy : Bool) (its : Call) → IsSessionAbove s → IsSessionAbove (begins k s busy its)
begins_above k s true its above = above
begins_above k s false its above = call_above k (record s { asks = 0; effect = None; wants_turn = false }) its

happens_above : (k : Seat) (s : SessionState) (event : SessionEvent) → IsSessionAbove s → IsSessionAbove (session_happens k s event)
unfolding session_happens
happens_above k s (Begins its) above = begins_above k s (is_busy s.step) its above
happens_above k s (Replies reply) above = session_next_above k s reply above
happens_above k s (Gets action) above = session_given_above k s action above

opened_above : (s : SessionState) (step : Sitting) → is_busy step ≡ false → SittingAbove s step
opened_above s (Idle its) idle = tt
opened_above s step idle = cc

-- at every moment of a session's run
pub session_run_above : (k : Seat) (opening : SessionState) (events : List SessionEvent) → IsOpened opening → IsSessionAbove (session_run k opening events)
unfolding session_run
session_run_above k opening [] opened = opened_above opening opening.step opened.none_in_hand
session_run_above k opening (event ∷ before) opened = happens_above k (session_run k opening before) event (session_run_above k opening before opened)
