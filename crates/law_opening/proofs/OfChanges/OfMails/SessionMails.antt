-- A session says in its mailbox that it asks in an attempt that puts an address there, and nowhere else.
use Rattle.std.proofs.Common.{◌≡◌, ℕ, ◌+◌, refl, sym, subst, Bool, true, false, List, [], ◌∷◌, length}
use Rattle.std.specs.Prelude.{⊤, Option, Some, None, if◌then◌else◌, not, ◌==◌, ◌||◌, slice_get, slice_set}
use Rattle.fkv_base.specs.declared.faults.Fault.{Fault}
use Rattle.fkv_base.specs.declared.faults.Fault.TheVariants as fault
use Rattle.fkv_epoch.proofs.Shown.{some_same}
use Rattle.fkv_map.specs.declared.operations.Call.{Call}
use Rattle.fkv_map.specs.declared.operations.Call.TheVariants as call
use Rattle.fkv_map.specs.declared.operations.Op.{Op}
use Rattle.fkv_plane.specs.declared.actions.Action.{Action}
use Rattle.fkv_plane.specs.declared.asks.Ask.{Ask}
use Rattle.fkv_plane.specs.declared.asks.Ask.TheVariants.{Done}
use Rattle.fkv_epoch.specs.Leaving.{leave_ask, leave_next}
use Rattle.law_refine.specs.Below.fkv_ops.Reason.{Reason}
use Rattle.law_refine.specs.Below.fkv_ops.Reason.TheVariants as reason
use Rattle.law_refine.specs.Below.fkv_ops.TryAnswer.{TryAnswer}
use Rattle.law_refine.specs.Below.fkv_ops.TryAnswer.TheVariants as tried
use Rattle.law_refine.specs.Below.fkv_ops.Occasion.TheVariants.{Call as AtCall, Poll as AtPoll}
use Rattle.law_refine.specs.Below.fkv_ops.Requests.{is_read}
use Rattle.law_refine.specs.Below.fkv_pending.TheAttempting.{Attempting}
use Rattle.law_refine.specs.Below.fkv_pending.TheAttempting.TheVariants as attempting
use Rattle.law_refine.specs.Below.fkv_pending.MailAnswer.{MailAnswer}
use Rattle.law_refine.specs.Below.fkv_pending.MailAnswer.TheVariants.{Cleared}
use Rattle.law_refine.specs.Below.fkv_pending.MailTask.TheVariants.{Clear}
use Rattle.law_refine.specs.Below.fkv_pending.TheMailing.{Mailing}
use Rattle.law_refine.specs.Below.fkv_pending.TheMailing.TheVariants.{LoadsState, StoresAsked}
use Rattle.law_refine.specs.Below.fkv_pending.PendingRequest.{PendingRequest}
use Rattle.law_refine.specs.Below.fkv_pending.Attempting.{AttemptState}
use Rattle.law_refine.specs.Below.fkv_pending.Mailing.{mail_ask, mail_next}
use Rattle.law_refine.specs.Below.fkv_session.Told.{Told}
use Rattle.law_refine.specs.Below.fkv_session.Told.TheVariants as told
use Rattle.law_refine.specs.Below.fkv_session.CatchCause.{CatchCause}
use Rattle.law_refine.specs.Below.fkv_session.CatchCause.TheVariants.{Refreshes, Wakes, Shifts}
use Rattle.law_refine.specs.Below.fkv_session.Sitting.{Sitting}
use Rattle.law_refine.specs.Below.fkv_session.Sitting.TheVariants.{Idle, Attempts, CatchesUp, ClearsMail, Polls, StoresOwing, Turns, StoresCut, Leaves, LoadsDurable}
use Rattle.law_refine.specs.Below.fkv_session.CatchingUp.{refresh_begun, wake_begun}
use Rattle.law_refine.specs.Below.fkv_session.OwnTurns.{own_turn_ask, own_turn_begun, own_turn_given}
use Rattle.law_refine.specs.Below.fkv_session.SessionRun.{SessionEvent, Begins, Replies, Gets, begins, session_happens, session_run}
use Rattle.law_refine.specs.Below.fkv_session.Sessions.{SessionState, Seat, bits_of, room_of, is_busy, answers, answers_after_turn, request_in_hand, attempts, polls_request, polls_at, refuses, refusal_of, op_begun, refresh_call, poll_begun, poll_call, sleep_call, wake_call, call_begun, session_begun, session_next, session_given, attempt_left, poll_left, serial_taken, update_done, ticket_after, is_no_room, with_request, accepts, shifts, attempted, attempt_ledto, caught_up, catch_ledto, clear_ledto, is_finished, is_owed, request_finished, finishes_request, lacks_room, keeps_request, poll_ledto, turn_ledto, leave_ledto, attempt_moved, caught, own_turn_moved, sitting_next, sitting_given, asks_after, is_word_ask, session_ask, IsOpened}
use Rattle.law_refine.specs.Below.law_local.Sessions.Known.{attempt_comes_to, is_attempting}
use Rattle.law_refine.specs.Mail.Mailers.{attempt_mailing, session_mailing, sitting_mailing}
use Rattle.law_opening.proofs.OfChanges.OfMails.AttemptMails.{AttemptLooks, LooksAlone, begun_looks, is_putting, next_looks, next_puts}
use Rattle.law_refine.specs.Below.fkv_ops.Bounds.{bounds_of}

-- a poll that begins lets a record go with a machine that puts nothing
abbrev pub MailsAt : SessionState → Sitting → Type 0
MailsAt s (Attempts has_shifted) = AttemptLooks s.attempt
MailsAt s (Polls index) = AttemptLooks s.attempt
MailsAt s ClearsMail = is_putting s.mailing ≡ false
MailsAt s step = ⊤

abbrev pub MailsSo : SessionState → Type 0
MailsSo s = MailsAt s s.step

either_by : (c : Bool) (a b : SessionState) → MailsSo a → MailsSo b → MailsSo (if c then a else b)
either_by true a b one other = one
either_by false a b one other = other

still_by : (s : SessionState) (step : Sitting) → s.step ≡ step → MailsAt s step → MailsSo s
still_by s step at its = subst (MailsAt s) (sym at) its

turn_by : (s : SessionState) (its : Told) → MailsSo (answers_after_turn s its)
turn_by s its = either_by s.wants_turn (record s { own_turn = own_turn_begun s.own_turn; step = Turns its }) (answers s its) tt tt

-- an attempt begins
attempts_by : (k : Seat) (s : SessionState) (has_shifted : Bool) → MailsSo (attempts k s has_shifted)
unfolding attempts
attempts_by k s has_shifted = begun_looks k.places (bits_of k) (request_in_hand s) s.seen (AtCall (bounds_of k.shape)) s.spare s.is_orphaned

polls_found : (k : Seat) (s : SessionState) (i : ℕ) (found : Option PendingRequest) → MailsSo (polls_request k s i found)
polls_found k s i None = turn_by s (told.Polled (length s.requests))
polls_found k s i (Some its) = begun_looks k.places (bits_of k) its s.seen AtPoll s.spare s.is_orphaned

polls_by : (k : Seat) (s : SessionState) (i : ℕ) → MailsSo (polls_at k s i)
unfolding polls_at
polls_by k s i = polls_found k s i (slice_get s.requests i)

-- what an attempt at a call comes to
accepts_by : (s : SessionState) (why : Reason) → MailsSo (accepts s why)
unfolding accepts
accepts_by s why =
    let update : SessionState = with_request (serial_taken (record s { wants_turn = is_no_room why })) in
    either_by (is_read s.op) (answers (with_request (record s { ticket = ticket_after s.ticket })) (told.PendingRead (record { 0 = ticket_after s.ticket }))) (answers_after_turn update (told.Pending (record { 0 = s.serial + 1 }) why)) tt
    (turn_by update (told.Pending (record { 0 = s.serial + 1 }) why))

shifts_by : (s : SessionState) (has_shifted : Bool) → MailsSo (shifts s has_shifted)
unfolding shifts
shifts_by s false = tt
shifts_by s true = accepts_by s reason.Contended

attempted_by : (s : SessionState) (has_shifted : Bool) (its : TryAnswer) → MailsSo (attempted s has_shifted its)
attempted_by s has_shifted (tried.Done reply) = either_by (is_read s.op) (answers s told.Absent) (update_done s reply) tt tt
attempted_by s has_shifted (tried.Found value) = tt
attempted_by s has_shifted tried.Absent = tt
attempted_by s has_shifted (tried.Wait why) = accepts_by s why
attempted_by s has_shifted (tried.AwaitsDisk sought) = accepts_by s reason.Disk
attempted_by s has_shifted tried.Shift = shifts_by s has_shifted
attempted_by s has_shifted tried.IndexFull = tt
attempted_by s has_shifted tried.LogFull = tt

attempt_by : (s : SessionState) (has_shifted : Bool) (ask : Ask TryAnswer) → s.step ≡ Attempts has_shifted → AttemptLooks s.attempt → MailsSo (attempt_ledto s has_shifted ask)
unfolding attempt_ledto
attempt_by s has_shifted (Done its) at so = attempted_by (attempt_left s) has_shifted its
attempt_by s has_shifted ask at so = still_by s (Attempts has_shifted) at so

-- what a session that catches up comes to
caught_up_by : (k : Seat) (s : SessionState) (cause : CatchCause) → MailsSo (caught_up k s cause)
caught_up_by k s Refreshes = tt
caught_up_by k s Wakes = tt
caught_up_by k s Shifts = attempts_by k s true

catch_by : (k : Seat) (s : SessionState) (cause : CatchCause) (ask : Ask (Unit {0})) → s.step ≡ CatchesUp cause → MailsSo (catch_ledto k s cause ask)
unfolding catch_ledto
catch_by k s cause (Done its) at = caught_up_by k (record s { seen = s.catching.seen }) cause
catch_by k s cause ask at = still_by s (CatchesUp cause) at tt

-- what a poll comes to
clear_by : (k : Seat) (s : SessionState) (ask : Ask MailAnswer) → s.step ≡ ClearsMail → is_putting s.mailing ≡ false → MailsSo (clear_ledto k s ask)
unfolding clear_ledto
clear_by k s (Done Cleared) at none = polls_by k (record s { is_orphaned = false }) 0
clear_by k s (Done its) at none = polls_by k s 0
clear_by k s ask at none = still_by s ClearsMail at none

finishes_by : (k : Seat) (s : SessionState) (i : ℕ) (its : TryAnswer) → MailsSo (finishes_request k s i its)
unfolding finishes_request
finishes_by k s i its = either_by (is_owed s) (request_finished s i its) (polls_at k (request_finished s i its) i) tt (polls_by k (request_finished s i its) i)

keeps_by : (k : Seat) (s : SessionState) (i : ℕ) (its : TryAnswer) → MailsSo (keeps_request k s i its)
unfolding keeps_request
keeps_by k s i its = polls_by k (record s { requests = slice_set s.requests i s.attempt.pending; wants_turn = s.wants_turn || lacks_room its }) (i + 1)

poll_by : (k : Seat) (s : SessionState) (i : ℕ) (ask : Ask TryAnswer) → s.step ≡ Polls i → AttemptLooks s.attempt → MailsSo (poll_ledto k s i ask)
unfolding poll_ledto
poll_by k s i (Done its) at so = either_by (is_finished its) (finishes_request k (poll_left s) i its) (keeps_request k (poll_left s) i its) (finishes_by k (poll_left s) i its) (keeps_by k (poll_left s) i its)
poll_by k s i ask at so = still_by s (Polls i) at so

turned_by : (s : SessionState) (its : Told) (ask : Ask (Unit {0})) → s.step ≡ Turns its → MailsSo (turn_ledto s its ask)
unfolding turn_ledto
turned_by s its (Done through) at = tt
turned_by s its ask at = still_by s (Turns its) at tt

left_by : (s : SessionState) (ask : Ask (Unit {0})) → s.step ≡ Leaves → MailsSo (leave_ledto s ask)
unfolding leave_ledto
left_by s (Done its) at = tt
left_by s ask at = still_by s Leaves at tt

-- ---- each reply
sitting_by : (k : Seat) (s : SessionState) (asks : ℕ) (step : Sitting) (reply : ℕ) → s.step ≡ step → MailsAt s step → MailsSo (sitting_next k (record s { asks = asks; effect = None }) step reply)
unfolding sitting_next
sitting_by k s asks (Idle its) reply at so = still_by (record s { asks = asks; effect = None }) (Idle its) at tt
sitting_by k s asks (Attempts has_shifted) reply at so =
    attempt_by (attempt_moved k (record s { asks = asks; effect = None }) reply) has_shifted (attempt_comes_to k s reply) at (next_looks k.places (bits_of k) (room_of k) k.number s.attempt reply so)
sitting_by k s asks (CatchesUp cause) reply at so = catch_by k (caught k (record s { asks = asks; effect = None }) reply) cause _ at
sitting_by k s asks ClearsMail reply at so =
    clear_by k (record s { asks = asks; effect = None; mailing = mail_next s.mailing reply }) (mail_ask k.number (mail_next s.mailing reply)) at (next_puts s.mailing reply so)
sitting_by k s asks (Polls i) reply at so =
    poll_by k (attempt_moved k (record s { asks = asks; effect = None }) reply) i (attempt_comes_to k s reply) at (next_looks k.places (bits_of k) (room_of k) k.number s.attempt reply so)
sitting_by k s asks (StoresOwing i) reply at so = polls_by k (record s { asks = asks; effect = None }) i
sitting_by k s asks (Turns its) reply at so = turned_by (own_turn_moved k (record s { asks = asks; effect = None }) reply) its _ at
sitting_by k s asks StoresCut reply at so = tt
sitting_by k s asks Leaves reply at so = left_by (record s { asks = asks; effect = None; leaving = leave_next s.leaving }) (leave_ask k.number (leave_next s.leaving)) at
sitting_by k s asks LoadsDurable reply at so = tt

next_by : (k : Seat) (s : SessionState) (reply : ℕ) → MailsSo s → MailsSo (session_next k s reply)
next_by k s reply so = sitting_by k s (asks_after s.asks (is_word_ask (session_ask k s))) s.step reply refl so

-- ---- each call and each action
op_by : (k : Seat) (s : SessionState) (op : Op) (why : Option Fault) → MailsSo (op_begun k s op why)
unfolding op_begun
op_by k s op (Some why) = tt
op_by k s op None = attempts_by k (record s { op = op }) false

clears_by : (k : Seat) (s : SessionState) → MailsSo (poll_begun k s)
clears_by k s = either_by s.is_orphaned (record s { mailing = LoadsState Clear; step = ClearsMail }) (polls_at k s 0) refl (polls_by k s 0)

call_by : (k : Seat) (s : SessionState) (its : Call) → MailsSo (call_begun k s its)
unfolding refresh_call poll_call sleep_call wake_call
call_by k s (call.Op op) = op_by k s op (refusal_of s op)
call_by k s call.Refresh = either_by s.is_awake (record s { catching = refresh_begun s.catching s.seen s.serial; step = CatchesUp Refreshes }) (refuses s fault.Asleep) tt tt
call_by k s call.Poll = either_by s.is_awake (poll_begun k (record s { finished = [] })) (refuses s fault.Asleep) (clears_by k (record s { finished = [] })) tt
call_by k s call.Sleep =
    either_by (not s.is_awake) (refuses s fault.Asleep) (if length s.requests == 0 then record s { step = StoresCut } else refuses s fault.PendingLeft) tt
    (either_by (length s.requests == 0) (record s { step = StoresCut }) (refuses s fault.PendingLeft) tt tt)
call_by k s call.Wake = either_by s.is_awake (refuses s fault.Awake) (record s { catching = wake_begun s.catching s.seen s.serial; step = CatchesUp Wakes }) tt tt
call_by k s call.Durable = tt

begun_by : (k : Seat) (s : SessionState) (its : Call) → MailsSo (session_begun k s its)
begun_by k s its = call_by k (record s { asks = 0; effect = None; wants_turn = false }) its

action_by : (k : Seat) (s : SessionState) (step : Sitting) (action : Action) → s.step ≡ step → MailsAt s step → MailsSo (sitting_given k s step action)
unfolding sitting_given
action_by k s (Turns its) action at so = turned_by (record s { own_turn = own_turn_given s.own_turn action }) its (own_turn_ask k.shape (own_turn_given s.own_turn action)) at
action_by k s step action at so = still_by s step at so

given_by : (k : Seat) (s : SessionState) (action : Action) → MailsSo s → MailsSo (session_given k s action)
given_by k s action so = action_by k s s.step action refl so

-- ---- over a run
idle_by : (s : SessionState) (step : Sitting) → is_busy step ≡ false → MailsAt s step
idle_by s (Idle its) idle = tt
idle_by s step idle = cc

begins_by : (k : Seat) (s : SessionState) (busy : Bool) (its : Call) → MailsSo s → MailsSo (begins k s busy its)
begins_by k s true its so = so
begins_by k s false its so = begun_by k s its

event_by : (k : Seat) (s : SessionState) (event : SessionEvent) → MailsSo s → MailsSo (session_happens k s event)
unfolding session_happens
event_by k s (Begins its) so = begins_by k s (is_busy s.step) its so
event_by k s (Replies reply) so = next_by k s reply so
event_by k s (Gets action) so = given_by k s action so

pub run_mails : (k : Seat) (opening : SessionState) (events : List SessionEvent) → IsOpened opening → MailsSo (session_run k opening events)
unfolding session_run
run_mails k opening [] opened = idle_by opening opening.step opened.none_in_hand
run_mails k opening (event ∷ before) opened = event_by k (session_run k opening before) event (run_mails k opening before opened)

-- ---- so who stores that it asks is an attempt that puts an address
pub record IsPutting (s : SessionState) : Type 0 where
  pub attempts : is_attempting s.step ≡ true
  pub puts : s.attempt.step ≡ attempting.Puts
  pub stores : s.attempt.mailing ≡ StoresAsked

not_putting : (its : Mailing) → is_putting its ≡ false → its ≡ StoresAsked → ⊥
not_putting its none asks = let clash : is_putting StoresAsked ≡ false = subst (λ (x : Mailing). is_putting x ≡ false) asks none in cc

record Puts (a : AttemptState) (step : Attempting) : Type 0 where
  its_step : step ≡ attempting.Puts
  stores : a.mailing ≡ StoresAsked

attempt_puts : (a : AttemptState) (step : Attempting) → LooksAlone a step → attempt_mailing a step ≡ Some StoresAsked → Puts a step
attempt_puts a attempting.Puts looks asks = record { its_step = refl; stores = some_same a.mailing StoresAsked asks }
attempt_puts a attempting.Looks looks asks = absurd (not_putting a.mailing looks (some_same a.mailing StoresAsked asks))
attempt_puts a attempting.Tries looks asks = cc
attempt_puts a (attempting.Ended its) looks asks = cc

record PutsAt (s : SessionState) (step : Sitting) : Type 0 where
  attempts : is_attempting step ≡ true
  puts : Puts s.attempt s.attempt.step

sitting_puts : (s : SessionState) (step : Sitting) → MailsAt s step → sitting_mailing s step ≡ Some StoresAsked → PutsAt s step
sitting_puts s (Attempts has_shifted) so asks = record { attempts = refl; puts = attempt_puts s.attempt s.attempt.step so asks }
sitting_puts s (Polls index) so asks = record { attempts = refl; puts = attempt_puts s.attempt s.attempt.step so asks }
sitting_puts s ClearsMail so asks = absurd (not_putting s.mailing so (some_same s.mailing StoresAsked asks))
sitting_puts s step so asks = cc

pub asks_by_put : (s : SessionState) → MailsSo s → session_mailing s ≡ Some StoresAsked → IsPutting s
asks_by_put s so asks = let its = sitting_puts s s.step so asks in record { attempts = its.attempts; puts = its.puts.its_step; stores = its.puts.stores }
