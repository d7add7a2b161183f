-- At every moment of a run the session's version is one from 1 up to the last.
use Rattle.std.proofs.Common.{◌≡◌, ℕ, ◌+◌, List, [], ◌∷◌, length, refl, sym, subst, Bool, true, false}
use Rattle.std.specs.Prelude.{slice_get, Option, Some, None, if◌then◌else◌, not, ◌==◌}
use Rattle.fkv_base.specs.declared.faults.Fault.{Fault}
use Rattle.fkv_base.specs.declared.faults.Fault.TheVariants as fault
use Rattle.fkv_map.specs.declared.operations.Call.{Call}
use Rattle.fkv_map.specs.declared.operations.Call.TheVariants as call
use Rattle.fkv_map.specs.declared.operations.Op.{Op}
use Rattle.fkv_plane.specs.declared.actions.Action.{Action}
use Rattle.fkv_plane.specs.declared.asks.Ask.{Ask}
use Rattle.fkv_plane.specs.declared.asks.Ask.TheVariants.{Done}
use Rattle.fkv_epoch.specs.Leaving.{leave_next}
use Rattle.fkv_ops.specs.declared.answers.Reason.{Reason}
use Rattle.fkv_ops.specs.declared.answers.Reason.TheVariants as reason
use Rattle.fkv_ops.specs.declared.answers.TryAnswer.{TryAnswer}
use Rattle.fkv_ops.specs.declared.answers.TryAnswer.TheVariants as tried
use Rattle.fkv_ops.specs.Requests.{is_read}
use Rattle.fkv_pending.specs.declared.mailing.MailAnswer.{MailAnswer}
use Rattle.fkv_pending.specs.declared.mailing.MailAnswer.TheVariants.{Cleared}
use Rattle.fkv_pending.specs.declared.pending_requests.PendingRequest.{PendingRequest}
use Rattle.fkv_pending.specs.Mailing.{mail_next}
use Rattle.fkv_session.specs.declared.answers.Told.{Told}
use Rattle.fkv_session.specs.declared.answers.Told.TheVariants as told
use Rattle.fkv_session.specs.declared.sessions.CatchCause.{CatchCause}
use Rattle.fkv_session.specs.declared.sessions.CatchCause.TheVariants.{Refreshes, Wakes, Shifts}
use Rattle.fkv_session.specs.declared.sessions.Sitting.{Sitting}
use Rattle.fkv_session.specs.declared.sessions.Sitting.TheVariants.{Idle, Attempts, CatchesUp, ClearsMail, Polls, StoresOwing, Turns, StoresCut, Leaves, LoadsDurable}
use Rattle.fkv_session.specs.OwnTurns.{own_turn_given}
use Rattle.fkv_session.specs.Sessions.{SessionState, Seat, bits_of, is_busy, answers, refuses, answers_after_turn, ticket_after, attempts, polls_request, polls_at, refusal_of, op_begun, refresh_call, poll_begun, poll_call, sleep_call, wake_call, call_begun, attempt_left, poll_left, serial_taken, update_done, is_no_room, with_request, accepts, shifts, attempted, attempt_ledto, catch_ledto, clear_ledto, is_finished, is_owed, request_finished, finishes_request, keeps_request, poll_ledto, turn_ledto, leave_ledto, attempt_moved, caught, own_turn_moved, sitting_next, sitting_given, asks_after, is_word_ask, session_ask, IsOpened}
use Rattle.fkv_session.specs.SessionRun.{SessionEvent, Begins, Replies, Gets, begins, session_happens, session_run}
use Rattle.fkv_session.specs.Versions.{IsVersion}
use Rattle.fkv_session.proofs.CatchFits.{catch_fit}

abbrev IsVersionKept : SessionState → Sitting → Type 0
IsVersionKept s (CatchesUp cause) = IsVersion s.seen.version.0 × IsVersion s.catching.seen.version.0
IsVersionKept s step = IsVersion s.seen.version.0

abbrev IsKeptNow : SessionState → Type 0
IsKeptNow s = IsVersionKept s s.step

still : (s : SessionState) (step : Sitting) → s.step ≡ step → IsVersionKept s step → IsKeptNow s
still s step e sound = subst (λ (x : Sitting). IsVersionKept s x) (sym e) sound

either_fits : (c : Bool) (a b : SessionState) → IsKeptNow a → IsKeptNow b → IsKeptNow (if c then a else b)
either_fits true a b one other = one
either_fits false a b one other = other

answers_fit : (s : SessionState) (its : Told) → IsVersion s.seen.version.0 → IsKeptNow (answers s its)
answers_fit s its fit = fit

turn_fits : (s : SessionState) (its : Told) → IsVersion s.seen.version.0 → IsKeptNow (answers_after_turn s its)
turn_fits s its fit = either_fits s.wants_turn _ (answers s its) fit (answers_fit s its fit)

attempts_fits : (k : Seat) (s : SessionState) (has_shifted : Bool) → IsVersion s.seen.version.0 → IsKeptNow (attempts k s has_shifted)
unfolding attempts
attempts_fits k s has_shifted fit = fit

polls_found : (k : Seat) (s : SessionState) (i : ℕ) (found : Option PendingRequest) → IsVersion s.seen.version.0 → IsKeptNow (polls_request k s i found)
polls_found k s i None fit = turn_fits s (told.Polled (length s.requests)) fit
polls_found k s i (Some pending) fit = fit

polls_fits : (k : Seat) (s : SessionState) (i : ℕ) → IsVersion s.seen.version.0 → IsKeptNow (polls_at k s i)
unfolding polls_at
polls_fits k s i fit = polls_found k s i (slice_get s.requests i) fit

accepts_fits : (s : SessionState) (why : Reason) → IsVersion s.seen.version.0 → IsKeptNow (accepts s why)
unfolding accepts
accepts_fits s why fit =
    either_fits (is_read s.op) (answers (with_request (record s { ticket = ticket_after s.ticket })) (told.PendingRead (record { 0 = ticket_after s.ticket }))) _
    fit
    (turn_fits (with_request (serial_taken (record s { wants_turn = is_no_room why }))) (told.Pending (record { 0 = s.serial + 1 }) why) fit)

shifts_fits : (s : SessionState) (has_shifted : Bool) → IsVersion s.seen.version.0 → IsKeptNow (shifts s has_shifted)
unfolding shifts
shifts_fits s false fit = (fit, fit)
shifts_fits s true fit = accepts_fits s reason.Contended fit

attempted_fits : (s : SessionState) (has_shifted : Bool) (its : TryAnswer) → IsVersion s.seen.version.0 → IsKeptNow (attempted s has_shifted its)
attempted_fits s has_shifted (tried.Done reply) fit = either_fits (is_read s.op) (answers s told.Absent) (update_done s reply) (answers_fit s told.Absent fit) fit
attempted_fits s has_shifted (tried.Found value) fit = answers_fit s (told.Found value) fit
attempted_fits s has_shifted tried.Absent fit = answers_fit s told.Absent fit
attempted_fits s has_shifted (tried.Wait why) fit = accepts_fits s why fit
attempted_fits s has_shifted (tried.AwaitsDisk sought) fit = accepts_fits s reason.Disk fit
attempted_fits s has_shifted tried.Shift fit = shifts_fits s has_shifted fit
attempted_fits s has_shifted tried.IndexFull fit = fit
attempted_fits s has_shifted tried.LogFull fit = fit

attempt_fits : (s : SessionState) (has_shifted : Bool) (ask : Ask TryAnswer) → s.step ≡ Attempts has_shifted → IsVersion s.seen.version.0 → IsKeptNow (attempt_ledto s has_shifted ask)
unfolding attempt_ledto
attempt_fits s has_shifted (Done its) e fit = attempted_fits (attempt_left s) has_shifted its fit
attempt_fits s has_shifted ask e fit = still s (Attempts has_shifted) e fit

catch_fits : (k : Seat) (s : SessionState) (cause : CatchCause) (ask : Ask (Unit {0})) → s.step ≡ CatchesUp cause → IsVersionKept s (CatchesUp cause) → IsKeptNow (catch_ledto k s cause ask)
unfolding catch_ledto
catch_fits k s Refreshes (Done its) e fit = fit.1
catch_fits k s Wakes (Done its) e fit = fit.1
catch_fits k s Shifts (Done its) e fit = attempts_fits k (record s { seen = s.catching.seen }) true fit.1
catch_fits k s cause ask e fit = still s (CatchesUp cause) e fit

clear_fits : (k : Seat) (s : SessionState) (ask : Ask MailAnswer) → s.step ≡ ClearsMail → IsVersion s.seen.version.0 → IsKeptNow (clear_ledto k s ask)
unfolding clear_ledto
clear_fits k s (Done Cleared) e fit = polls_fits k (record s { is_orphaned = false }) 0 fit
clear_fits k s (Done its) e fit = polls_fits k s 0 fit
clear_fits k s ask e fit = still s ClearsMail e fit

finishes_fits : (k : Seat) (s : SessionState) (i : ℕ) (its : TryAnswer) → IsVersion s.seen.version.0 → IsKeptNow (finishes_request k s i its)
unfolding finishes_request
finishes_fits k s i its fit = either_fits (is_owed s) (request_finished s i its) (polls_at k (request_finished s i its) i) fit (polls_fits k (request_finished s i its) i fit)

keeps_fits : (k : Seat) (s : SessionState) (i : ℕ) (its : TryAnswer) → IsVersion s.seen.version.0 → IsKeptNow (keeps_request k s i its)
unfolding keeps_request
keeps_fits k s i its fit = polls_fits k _ (i + 1) fit

poll_fits : (k : Seat) (s : SessionState) (i : ℕ) (ask : Ask TryAnswer) → s.step ≡ Polls i → IsVersion s.seen.version.0 → IsKeptNow (poll_ledto k s i ask)
unfolding poll_ledto
poll_fits k s i (Done its) e fit = either_fits (is_finished its) _ (keeps_request k (poll_left s) i its) (finishes_fits k (poll_left s) i its fit) (keeps_fits k (poll_left s) i its fit)
poll_fits k s i ask e fit = still s (Polls i) e fit

turned_fits : (s : SessionState) (its : Told) (ask : Ask (Unit {0})) → s.step ≡ Turns its → IsVersion s.seen.version.0 → IsKeptNow (turn_ledto s its ask)
unfolding turn_ledto
turned_fits s its (Done through) e fit = answers_fit s its fit
turned_fits s its ask e fit = still s (Turns its) e fit

left_fits : (s : SessionState) (ask : Ask (Unit {0})) → s.step ≡ Leaves → IsVersion s.seen.version.0 → IsKeptNow (leave_ledto s ask)
unfolding leave_ledto
left_fits s (Done its) e fit = fit
left_fits s ask e fit = still s Leaves e fit

next_fits : (k : Seat) (s : SessionState) (step : Sitting) (reply : ℕ) → s.step ≡ step → IsVersionKept s step → IsKeptNow (sitting_next k s step reply)
unfolding sitting_next
next_fits k s (Idle its) reply e fit = still s (Idle its) e fit
next_fits k s (Attempts has_shifted) reply e fit = attempt_fits (attempt_moved k s reply) has_shifted _ e fit
next_fits k s (CatchesUp cause) reply e fit = catch_fits k (caught k s reply) cause _ e (fit.0, catch_fit k.places (bits_of k) k.number s.catching s.requests reply fit.1)
next_fits k s ClearsMail reply e fit = clear_fits k (record s { mailing = mail_next s.mailing reply }) _ e fit
next_fits k s (Polls i) reply e fit = poll_fits k (attempt_moved k s reply) i _ e fit
next_fits k s (StoresOwing i) reply e fit = polls_fits k s i fit
next_fits k s (Turns its) reply e fit = turned_fits (own_turn_moved k s reply) its _ e fit
next_fits k s StoresCut reply e fit = fit
next_fits k s Leaves reply e fit = left_fits (record s { leaving = leave_next s.leaving }) _ e fit
next_fits k s LoadsDurable reply e fit = fit

given_fits : (k : Seat) (s : SessionState) (step : Sitting) (action : Action) → s.step ≡ step → IsVersionKept s step → IsKeptNow (sitting_given k s step action)
unfolding sitting_given
given_fits k s (Turns its) action e fit = turned_fits (record s { own_turn = own_turn_given s.own_turn action }) its _ e fit
given_fits k s step action e fit = still s step e fit

op_fits : (k : Seat) (s : SessionState) (op : Op) (why : Option Fault) → IsVersion s.seen.version.0 → IsKeptNow (op_begun k s op why)
unfolding op_begun
op_fits k s op (Some why) fit = fit
op_fits k s op None fit = attempts_fits k (record s { op = op }) false fit

clears_fits : (k : Seat) (s : SessionState) → IsVersion s.seen.version.0 → IsKeptNow (poll_begun k s)
clears_fits k s fit = either_fits s.is_orphaned _ (polls_at k s 0) fit (polls_fits k s 0 fit)

call_fits : (k : Seat) (s : SessionState) (its : Call) → IsVersion s.seen.version.0 → IsKeptNow (call_begun k s its)
unfolding refresh_call poll_call sleep_call wake_call
call_fits k s (call.Op op) fit = op_fits k s op (refusal_of s op) fit
call_fits k s call.Refresh fit = either_fits s.is_awake _ (refuses s fault.Asleep) (fit, fit) fit
call_fits k s call.Poll fit = either_fits s.is_awake _ (refuses s fault.Asleep) (clears_fits k (record s { finished = [] }) fit) fit
call_fits k s call.Sleep fit = either_fits (not s.is_awake) (refuses s fault.Asleep) _ fit (either_fits (length s.requests == 0) (record s { step = StoresCut }) (refuses s fault.PendingLeft) fit fit)
call_fits k s call.Wake fit = either_fits s.is_awake (refuses s fault.Awake) _ fit (fit, fit)
call_fits k s call.Durable fit = fit

now_fits : (s : SessionState) (step : Sitting) → IsVersionKept s step → IsVersion s.seen.version.0
now_fits s (CatchesUp cause) fit = fit.0
now_fits s step fit = fit

counted_fits : (s : SessionState) (asks : ℕ) (step : Sitting) → IsVersionKept s step → IsVersionKept (record s { asks = asks; effect = None }) step
counted_fits s asks (CatchesUp cause) fit = fit
counted_fits s asks step fit = fit

begins_fits : (k : Seat) (s : SessionState) (its : Call) (busy : Bool) → IsKeptNow s → IsKeptNow (begins k s busy its)
begins_fits k s its true fit = fit
begins_fits k s its false fit = call_fits k (record s { asks = 0; effect = None; wants_turn = false }) its (now_fits s s.step fit)

event_fits : (k : Seat) (s : SessionState) (event : SessionEvent) → IsKeptNow s → IsKeptNow (session_happens k s event)
unfolding session_happens
event_fits k s (Begins its) fit = begins_fits k s its (is_busy s.step) fit
event_fits k s (Replies reply) fit =
    let asks : ℕ = asks_after s.asks (is_word_ask (session_ask k s)) in
    next_fits k (record s { asks = asks; effect = None }) s.step reply refl (counted_fits s asks s.step fit)
event_fits k s (Gets action) fit = given_fits k s s.step action refl fit

opening_fits : (s : SessionState) (step : Sitting) → is_busy step ≡ false → IsVersion s.seen.version.0 → IsVersionKept s step
opening_fits s (Idle its) idle fit = fit
opening_fits s step idle fit = cc

run_steps : (k : Seat) (opening : SessionState) (events : List SessionEvent) → IsOpened opening → IsVersion opening.seen.version.0 → IsKeptNow (session_run k opening events)
unfolding session_run
run_steps k opening [] opened fit = opening_fits opening opening.step opened.none_in_hand fit
run_steps k opening (event ∷ before) opened fit = event_fits k (session_run k opening before) event (run_steps k opening before opened fit)

-- at every moment of a run
pub run_version : (k : Seat) (opening : SessionState) (events : List SessionEvent) → IsOpened opening → IsVersion opening.seen.version.0 → IsVersion (session_run k opening events).seen.version.0
run_version k opening events opened fit = now_fits (session_run k opening events) (session_run k opening events).step (run_steps k opening events opened fit)
