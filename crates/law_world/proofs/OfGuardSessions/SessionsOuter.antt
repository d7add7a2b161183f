-- At every moment of a session's run the words that it writes in the index are none of the guard's.
use Rattle.std.proofs.Common.{◌≡◌, ℕ, ◌+◌, refl, sym, subst, List, [], ◌∷◌, length, Bool, true, false}
use Rattle.std.specs.Prelude.{if◌then◌else◌, ◌==◌, ◌||◌, not, ⊤, Option, Some, None, slice_get, slice_set}
use Rattle.fkv_base.specs.declared.faults.Fault.{Fault}
use Rattle.fkv_base.specs.declared.faults.Fault.TheVariants as fault
use Rattle.fkv_map.specs.declared.operations.Call.{Call}
use Rattle.fkv_map.specs.declared.operations.Call.TheVariants as call
use Rattle.fkv_map.specs.declared.operations.Op.{Op}
use Rattle.fkv_plane.specs.declared.actions.Action.{Action}
use Rattle.fkv_plane.specs.declared.asks.Ask.{Ask}
use Rattle.fkv_plane.specs.declared.asks.Ask.TheVariants.{Done}
use Rattle.fkv_plane.specs.declared.places.Places.{Places}
use Rattle.fkv_index.proofs.Shown.{homes_are_there}
use Rattle.fkv_epoch.specs.Leaving.{leave_next}
use Rattle.fkv_ops.specs.declared.answers.Reason.{Reason}
use Rattle.fkv_ops.specs.declared.answers.Reason.TheVariants as reason
use Rattle.fkv_ops.specs.declared.answers.TryAnswer.{TryAnswer}
use Rattle.fkv_ops.specs.declared.answers.TryAnswer.TheVariants as tried
use Rattle.fkv_ops.specs.declared.requests.Occasion.TheVariants.{Call as AtCall, Poll as AtPoll}
use Rattle.fkv_ops.specs.Requests.{is_read}
use Rattle.fkv_pending.specs.declared.mailing.MailAnswer.{MailAnswer}
use Rattle.fkv_pending.specs.declared.mailing.MailAnswer.TheVariants.{Cleared}
use Rattle.fkv_pending.specs.declared.mailing.MailTask.TheVariants.{Clear}
use Rattle.fkv_pending.specs.declared.mailing.Mailing.TheVariants.{LoadsState}
use Rattle.fkv_pending.specs.declared.pending_requests.PendingRequest.{PendingRequest}
use Rattle.fkv_pending.specs.Mailing.{mail_next}
use Rattle.fkv_session.specs.declared.answers.Told.{Told}
use Rattle.fkv_session.specs.declared.answers.Told.TheVariants as told
use Rattle.fkv_session.specs.declared.sessions.CatchCause.{CatchCause}
use Rattle.fkv_session.specs.declared.sessions.CatchCause.TheVariants.{Refreshes, Wakes, Shifts}
use Rattle.fkv_session.specs.declared.sessions.Sitting.{Sitting}
use Rattle.fkv_session.specs.declared.sessions.Sitting.TheVariants.{Idle, Attempts, CatchesUp, ClearsMail, Polls, StoresOwing, Turns, StoresCut, Leaves, LoadsDurable}
use Rattle.fkv_session.specs.CatchingUp.{refresh_begun, wake_begun}
use Rattle.fkv_session.specs.OwnTurns.{own_turn_begun, own_turn_given}
use Rattle.fkv_session.specs.Sessions.{SessionState, Seat, IsOpened, bits_of, room_of, answers, refuses, answers_after_turn, request_in_hand, attempts, polls_request, polls_at, refusal_of, op_begun, refresh_call, poll_begun, poll_call, sleep_call, wake_call, call_begun, ticket_after, attempt_left, serial_taken, update_done, is_no_room, lacks_room, with_request, accepts, shifts, attempted, attempt_ledto, caught_up, catch_ledto, clear_ledto, is_finished, is_owed, request_finished, finishes_request, keeps_request, poll_left, poll_ledto, turn_ledto, leave_ledto, attempt_moved, caught, own_turn_moved, sitting_ask, session_ask, sitting_next, session_next, sitting_given, session_given, asks_after, is_word_ask, is_busy}
use Rattle.fkv_session.specs.SessionRun.{SessionEvent, Begins, Replies, Gets, begins, session_happens, session_run}
use Rattle.fkv_session.specs.Shares.{HasItsBuckets}
use Rattle.law_world.specs.GuardSessions.Sessions.{SittingWritesOuter, SessionWritesOuter}
use Rattle.law_world.proofs.OfGuardSessions.AttemptsOuter.{HomesAreLow, IsAttemptOuter, attempt_owes, attempt_begun_outer, attempt_next_outer}
use Rattle.law_world.proofs.OfGuardSessions.CatchesOuter.{IsCatchOuter, catch_owes, catch_next_outer}
use Rattle.fkv_ops.specs.Bounds.{bounds_of}

abbrev pub Homes : Seat → Type 0
Homes k = HomesAreLow k.places (bits_of k)

pub its_homes : (k : Seat) → HasItsBuckets k → Homes k
its_homes k its key = (homes_are_there k.places (bits_of k) key its).few

-- by its step: its attempt, or its catching up
abbrev pub SittingRow : Places → SessionState → Sitting → Type 0
SittingRow p s (Attempts has_shifted) = IsAttemptOuter p s.attempt
SittingRow p s (Polls index) = IsAttemptOuter p s.attempt
SittingRow p s (CatchesUp cause) = IsCatchOuter p s.catching
SittingRow p s step = ⊤

abbrev pub IsSessionOuter : Places → SessionState → Type 0
IsSessionOuter p s = SittingRow p s s.step

-- what a session owes
sitting_owes : (k : Seat) (s : SessionState) (step : Sitting) → SittingRow k.places s step → SittingWritesOuter k s step (sitting_ask k s step)
unfolding sitting_ask
sitting_owes k s (Attempts has_shifted) row = attempt_owes k.places k.number s.attempt s.attempt.step told.Slept row
sitting_owes k s (Polls index) row = attempt_owes k.places k.number s.attempt s.attempt.step told.Slept row
sitting_owes k s (CatchesUp cause) row = catch_owes k.places k.number s.catching s.requests s.catching.step told.Slept row
sitting_owes k s (Idle its) row = tt
sitting_owes k s ClearsMail row = tt
sitting_owes k s (StoresOwing index) row = tt
sitting_owes k s (Turns its) row = tt
sitting_owes k s StoresCut row = tt
sitting_owes k s Leaves row = tt
sitting_owes k s LoadsDurable row = tt

pub session_owes : (k : Seat) (s : SessionState) → IsSessionOuter k.places s → SessionWritesOuter k s
session_owes k s row = sitting_owes k s s.step row

-- where a call and a reply lead
either_outer : (c : Bool) (p : Places) (a b : SessionState) → IsSessionOuter p a → IsSessionOuter p b → IsSessionOuter p (if c then a else b)
either_outer true p a b one other = one
either_outer false p a b one other = other

stays_outer : (p : Places) (s : SessionState) (step : Sitting) → s.step ≡ step → SittingRow p s step → IsSessionOuter p s
stays_outer p s step at row = subst (λ x. SittingRow p s x) (sym at) row

turn_after_outer : (p : Places) (s : SessionState) (its : Told) → IsSessionOuter p (answers_after_turn s its)
turn_after_outer p s its = either_outer s.wants_turn p (record s { own_turn = own_turn_begun s.own_turn; step = Turns its }) (answers s its) tt tt

attempts_outer : (k : Seat) (homes : Homes k) (s : SessionState) (has_shifted : Bool) → IsSessionOuter k.places (attempts k s has_shifted)
unfolding attempts
attempts_outer k homes s has_shifted = attempt_begun_outer k.places (bits_of k) (request_in_hand s) s.seen (AtCall (bounds_of k.shape)) s.spare s.is_orphaned homes

polls_request_outer : (k : Seat) (homes : Homes k) (s : SessionState) (index : ℕ) (found : Option PendingRequest) → IsSessionOuter k.places (polls_request k s index found)
polls_request_outer k homes s index None = turn_after_outer k.places s (told.Polled (length s.requests))
polls_request_outer k homes s index (Some pending) = attempt_begun_outer k.places (bits_of k) pending s.seen AtPoll s.spare s.is_orphaned homes

polls_outer : (k : Seat) (homes : Homes k) (s : SessionState) (index : ℕ) → IsSessionOuter k.places (polls_at k s index)
unfolding polls_at
polls_outer k homes s index = polls_request_outer k homes s index (slice_get s.requests index)

accepts_outer : (p : Places) (s : SessionState) (why : Reason) → IsSessionOuter p (accepts s why)
unfolding accepts
accepts_outer p s why =
    either_outer (is_read s.op) p (answers (with_request (record s { ticket = ticket_after s.ticket })) (told.PendingRead (record { 0 = ticket_after s.ticket })))
    (answers_after_turn (with_request (serial_taken (record s { wants_turn = is_no_room why }))) (told.Pending (record { 0 = s.serial + 1 }) why))
    tt (turn_after_outer p (with_request (serial_taken (record s { wants_turn = is_no_room why }))) (told.Pending (record { 0 = s.serial + 1 }) why))

shifts_outer : (p : Places) (s : SessionState) (has_shifted : Bool) → IsSessionOuter p (shifts s has_shifted)
unfolding shifts
shifts_outer p s false = tt
shifts_outer p s true = accepts_outer p s reason.Contended

attempted_outer : (p : Places) (s : SessionState) (has_shifted : Bool) (its : TryAnswer) → IsSessionOuter p (attempted s has_shifted its)
attempted_outer p s has_shifted (tried.Done reply) = either_outer (is_read s.op) p (answers s told.Absent) (update_done s reply) tt tt
attempted_outer p s has_shifted (tried.Found value) = tt
attempted_outer p s has_shifted tried.Absent = tt
attempted_outer p s has_shifted (tried.Wait why) = accepts_outer p s why
attempted_outer p s has_shifted (tried.AwaitsDisk sought) = accepts_outer p s reason.Disk
attempted_outer p s has_shifted tried.Shift = shifts_outer p s has_shifted
attempted_outer p s has_shifted tried.IndexFull = tt
attempted_outer p s has_shifted tried.LogFull = tt

attempt_ledto_outer : (p : Places) (s : SessionState) (has_shifted : Bool) (ask : Ask TryAnswer) → s.step ≡ Attempts has_shifted → IsAttemptOuter p s.attempt → IsSessionOuter p (attempt_ledto s has_shifted ask)
unfolding attempt_ledto
attempt_ledto_outer p s has_shifted (Done its) at row = attempted_outer p (attempt_left s) has_shifted its
attempt_ledto_outer p s has_shifted ask at row = stays_outer p s (Attempts has_shifted) at row

finishes_outer : (k : Seat) (homes : Homes k) (s : SessionState) (index : ℕ) (its : TryAnswer) → IsSessionOuter k.places (finishes_request k s index its)
unfolding finishes_request
finishes_outer k homes s index its = either_outer (is_owed s) k.places (request_finished s index its) (polls_at k (request_finished s index its) index) tt (polls_outer k homes (request_finished s index its) index)

keeps_outer : (k : Seat) (homes : Homes k) (s : SessionState) (index : ℕ) (its : TryAnswer) → IsSessionOuter k.places (keeps_request k s index its)
unfolding keeps_request
keeps_outer k homes s index its = polls_outer k homes (record s { requests = slice_set s.requests index s.attempt.pending; wants_turn = s.wants_turn || lacks_room its }) (index + 1)

poll_ledto_outer : (k : Seat) (homes : Homes k) (s : SessionState) (index : ℕ) (ask : Ask TryAnswer) → s.step ≡ Polls index → IsAttemptOuter k.places s.attempt → IsSessionOuter k.places (poll_ledto k s index ask)
unfolding poll_ledto
poll_ledto_outer k homes s index (Done its) at row = either_outer (is_finished its) k.places (finishes_request k (poll_left s) index its) (keeps_request k (poll_left s) index its) (finishes_outer k homes (poll_left s) index its) (keeps_outer k homes (poll_left s) index its)
poll_ledto_outer k homes s index ask at row = stays_outer k.places s (Polls index) at row

caught_up_outer : (k : Seat) (homes : Homes k) (s : SessionState) (cause : CatchCause) → IsSessionOuter k.places (caught_up k s cause)
caught_up_outer k homes s Refreshes = tt
caught_up_outer k homes s Wakes = tt
caught_up_outer k homes s Shifts = attempts_outer k homes s true

catch_ledto_outer : (k : Seat) (homes : Homes k) (s : SessionState) (cause : CatchCause) (ask : Ask (Unit {0})) → s.step ≡ CatchesUp cause → IsCatchOuter k.places s.catching → IsSessionOuter k.places (catch_ledto k s cause ask)
unfolding catch_ledto
catch_ledto_outer k homes s cause (Done its) at row = caught_up_outer k homes (record s { seen = s.catching.seen }) cause
catch_ledto_outer k homes s cause ask at row = stays_outer k.places s (CatchesUp cause) at row

clear_outer : (k : Seat) (homes : Homes k) (s : SessionState) (ask : Ask MailAnswer) → s.step ≡ ClearsMail → IsSessionOuter k.places (clear_ledto k s ask)
unfolding clear_ledto
clear_outer k homes s (Done Cleared) at = polls_outer k homes (record s { is_orphaned = false }) 0
clear_outer k homes s (Done its) at = polls_outer k homes s 0
clear_outer k homes s ask at = stays_outer k.places s ClearsMail at tt

turn_ledto_outer : (p : Places) (s : SessionState) (its : Told) (ask : Ask (Unit {0})) → s.step ≡ Turns its → IsSessionOuter p (turn_ledto s its ask)
unfolding turn_ledto
turn_ledto_outer p s its (Done through) at = tt
turn_ledto_outer p s its ask at = stays_outer p s (Turns its) at tt

leave_ledto_outer : (p : Places) (s : SessionState) (ask : Ask (Unit {0})) → s.step ≡ Leaves → IsSessionOuter p (leave_ledto s ask)
unfolding leave_ledto
leave_ledto_outer p s (Done its) at = tt
leave_ledto_outer p s ask at = stays_outer p s Leaves at tt

next_outer : (k : Seat) (homes : Homes k) (s : SessionState) (step : Sitting) (reply : ℕ) → s.step ≡ step → SittingRow k.places s step → IsSessionOuter k.places (sitting_next k s step reply)
unfolding sitting_next
next_outer k homes s (Idle its) reply at row = stays_outer k.places s (Idle its) at tt
next_outer k homes s (Attempts has_shifted) reply at row = attempt_ledto_outer k.places (attempt_moved k s reply) has_shifted _ at (attempt_next_outer k.places (bits_of k) (room_of k) k.number s.attempt reply homes row)
next_outer k homes s (CatchesUp cause) reply at row = catch_ledto_outer k homes (caught k s reply) cause _ at (catch_next_outer k.places (bits_of k) k.number s.catching s.requests reply homes row)
next_outer k homes s ClearsMail reply at row = clear_outer k homes (record s { mailing = mail_next s.mailing reply }) _ at
next_outer k homes s (Polls index) reply at row = poll_ledto_outer k homes (attempt_moved k s reply) index _ at (attempt_next_outer k.places (bits_of k) (room_of k) k.number s.attempt reply homes row)
next_outer k homes s (StoresOwing index) reply at row = polls_outer k homes s index
next_outer k homes s (Turns its) reply at row = turn_ledto_outer k.places (own_turn_moved k s reply) its _ at
next_outer k homes s StoresCut reply at row = tt
next_outer k homes s Leaves reply at row = leave_ledto_outer k.places (record s { leaving = leave_next s.leaving }) _ at
next_outer k homes s LoadsDurable reply at row = tt

counted_outer : (p : Places) (s : SessionState) (asks : ℕ) (step : Sitting) → SittingRow p s step → SittingRow p (record s { asks = asks; effect = None }) step
counted_outer p s asks (Attempts has_shifted) row = row
counted_outer p s asks (Polls index) row = row
counted_outer p s asks (Turns its) row = tt
counted_outer p s asks (Idle its) row = tt
counted_outer p s asks (CatchesUp cause) row = row
counted_outer p s asks ClearsMail row = tt
counted_outer p s asks (StoresOwing index) row = tt
counted_outer p s asks StoresCut row = tt
counted_outer p s asks Leaves row = tt
counted_outer p s asks LoadsDurable row = tt

session_next_outer : (k : Seat) (homes : Homes k) (s : SessionState) (reply : ℕ) → IsSessionOuter k.places s → IsSessionOuter k.places (session_next k s reply)
session_next_outer k homes s reply row =
    let asks : ℕ = asks_after s.asks (is_word_ask (session_ask k s)) in
    next_outer k homes (record s { asks = asks; effect = None }) s.step reply refl (counted_outer k.places s asks s.step row)

given_outer : (k : Seat) (homes : Homes k) (s : SessionState) (step : Sitting) (action : Action) → s.step ≡ step → SittingRow k.places s step → IsSessionOuter k.places (sitting_given k s step action)
unfolding sitting_given
given_outer k homes s (Turns its) action at row = turn_ledto_outer k.places (record s { own_turn = own_turn_given s.own_turn action }) its _ at
given_outer k homes s (Idle its) action at row = stays_outer k.places s (Idle its) at row
given_outer k homes s (Attempts has_shifted) action at row = stays_outer k.places s (Attempts has_shifted) at row
given_outer k homes s (CatchesUp cause) action at row = stays_outer k.places s (CatchesUp cause) at row
given_outer k homes s ClearsMail action at row = stays_outer k.places s ClearsMail at row
given_outer k homes s (Polls index) action at row = stays_outer k.places s (Polls index) at row
given_outer k homes s (StoresOwing index) action at row = stays_outer k.places s (StoresOwing index) at row
given_outer k homes s StoresCut action at row = stays_outer k.places s StoresCut at row
given_outer k homes s Leaves action at row = stays_outer k.places s Leaves at row
given_outer k homes s LoadsDurable action at row = stays_outer k.places s LoadsDurable at row

session_given_outer : (k : Seat) (homes : Homes k) (s : SessionState) (action : Action) → IsSessionOuter k.places s → IsSessionOuter k.places (session_given k s action)
session_given_outer k homes s action row = given_outer k homes s s.step action refl row

-- a call
op_outer : (k : Seat) (homes : Homes k) (s : SessionState) (op : Op) (why : Option Fault) → IsSessionOuter k.places (op_begun k s op why)
unfolding op_begun
op_outer k homes s op (Some why) = tt
op_outer k homes s op None = attempts_outer k homes (record s { op = op }) false

refresh_called_outer : (p : Places) (s : SessionState) → IsSessionOuter p (refresh_call s)
unfolding refresh_call
refresh_called_outer p s = either_outer s.is_awake p (record s { catching = refresh_begun s.catching s.seen s.serial; step = CatchesUp Refreshes }) (refuses s fault.Asleep) tt tt

poll_begun_outer : (k : Seat) (homes : Homes k) (s : SessionState) → IsSessionOuter k.places (poll_begun k s)
poll_begun_outer k homes s = either_outer s.is_orphaned k.places (record s { mailing = LoadsState Clear; step = ClearsMail }) (polls_at k s 0) tt (polls_outer k homes s 0)

poll_called_outer : (k : Seat) (homes : Homes k) (s : SessionState) → IsSessionOuter k.places (poll_call k s)
unfolding poll_call
poll_called_outer k homes s = either_outer s.is_awake k.places (poll_begun k (record s { finished = [] })) (refuses s fault.Asleep) (poll_begun_outer k homes (record s { finished = [] })) tt

sleep_outer : (p : Places) (s : SessionState) → IsSessionOuter p (sleep_call s)
unfolding sleep_call
sleep_outer p s = either_outer (not s.is_awake) p (refuses s fault.Asleep) _ tt (either_outer (length s.requests == 0) p (record s { step = StoresCut }) (refuses s fault.PendingLeft) tt tt)

wake_outer : (p : Places) (s : SessionState) → IsSessionOuter p (wake_call s)
unfolding wake_call
wake_outer p s = either_outer s.is_awake p (refuses s fault.Awake) (record s { catching = wake_begun s.catching s.seen s.serial; step = CatchesUp Wakes }) tt tt

call_outer : (k : Seat) (homes : Homes k) (s : SessionState) (its : Call) → IsSessionOuter k.places (call_begun k s its)
call_outer k homes s (call.Op op) = op_outer k homes s op (refusal_of s op)
call_outer k homes s call.Refresh = refresh_called_outer k.places s
call_outer k homes s call.Poll = poll_called_outer k homes s
call_outer k homes s call.Sleep = sleep_outer k.places s
call_outer k homes s call.Wake = wake_outer k.places s
call_outer k homes s call.Durable = tt

begins_outer : (k : Seat) (homes : Homes k) (s : SessionState) (busy : Bool) (its : Call) → IsSessionOuter k.places s → IsSessionOuter k.places (begins k s busy its)
begins_outer k homes s true its row = row
begins_outer k homes s false its row = call_outer k homes (record s { asks = 0; effect = None; wants_turn = false }) its

happens_outer : (k : Seat) (homes : Homes k) (s : SessionState) (event : SessionEvent) → IsSessionOuter k.places s → IsSessionOuter k.places (session_happens k s event)
unfolding session_happens
happens_outer k homes s (Begins its) row = begins_outer k homes s (is_busy s.step) its row
happens_outer k homes s (Replies reply) row = session_next_outer k homes s reply row
happens_outer k homes s (Gets action) row = session_given_outer k homes s action row

opened_outer : (p : Places) (s : SessionState) (step : Sitting) → is_busy step ≡ false → SittingRow p s step
opened_outer p s (Idle its) idle = tt
opened_outer p s step idle = cc

-- at every moment of a session's run
pub session_run_outer : (k : Seat) (homes : Homes k) (opening : SessionState) (events : List SessionEvent) → IsOpened opening → IsSessionOuter k.places (session_run k opening events)
unfolding session_run
session_run_outer k homes opening [] opened = opened_outer k.places opening opening.step opened.none_in_hand
session_run_outer k homes opening (event ∷ before) opened = happens_outer k homes (session_run k opening before) event (session_run_outer k homes opening before opened)
