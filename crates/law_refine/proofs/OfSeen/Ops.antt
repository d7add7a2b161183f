-- The operation that a call has in hand brings no number that stands for no value: else the call is refused before it is tried.
use Rattle.std.proofs.Common.{◌≡◌, ℕ, ◌+◌, refl, sym, subst, Bool, true, false, List, [], ◌∷◌, length}
use Rattle.std.specs.Prelude.{Option, Some, None, if◌then◌else◌, not, ◌==◌, ◌||◌, slice_get, slice_set}
use Rattle.fkv_base.specs.declared.faults.Fault.{Fault}
use Rattle.fkv_base.specs.declared.faults.Fault.TheVariants as fault
use Rattle.fkv_epoch.specs.Leaving.{leave_ask, leave_next}
use Rattle.fkv_map.specs.declared.operations.Call.{Call}
use Rattle.fkv_map.specs.declared.operations.Call.TheVariants as call
use Rattle.fkv_map.specs.declared.operations.Op.{Op}
use Rattle.fkv_map.specs.Map.{is_reserved}
use Rattle.law_world.specs.Below.fkv_ops.Reason.{Reason}
use Rattle.law_world.specs.Below.fkv_ops.Reason.TheVariants as reason
use Rattle.law_world.specs.Below.fkv_ops.TryAnswer.{TryAnswer}
use Rattle.law_world.specs.Below.fkv_ops.TryAnswer.TheVariants as answer
use Rattle.law_world.specs.Below.fkv_ops.Requests.{is_read}
use Rattle.law_world.specs.Below.fkv_pending.MailAnswer.{MailAnswer}
use Rattle.law_world.specs.Below.fkv_pending.MailAnswer.TheVariants as mail
use Rattle.law_world.specs.Below.fkv_pending.MailTask.TheVariants.{Clear}
use Rattle.law_world.specs.Below.fkv_pending.TheMailing.TheVariants.{LoadsState}
use Rattle.law_world.specs.Below.fkv_pending.PendingRequest.{PendingRequest}
use Rattle.law_world.specs.Below.fkv_pending.Attempting.{attempt_ask}
use Rattle.law_world.specs.Below.fkv_pending.Mailing.{mail_ask, mail_next}
use Rattle.fkv_plane.specs.declared.actions.Action.{Action}
use Rattle.fkv_plane.specs.declared.asks.Ask.{Ask}
use Rattle.fkv_plane.specs.declared.asks.Ask.TheVariants.{Done}
use Rattle.law_world.specs.Below.fkv_session.Told.{Told}
use Rattle.law_world.specs.Below.fkv_session.Told.TheVariants as told
use Rattle.law_world.specs.Below.fkv_session.CatchCause.{CatchCause}
use Rattle.law_world.specs.Below.fkv_session.CatchCause.TheVariants as cause
use Rattle.law_world.specs.Below.fkv_session.Sitting.{Sitting}
use Rattle.law_world.specs.Below.fkv_session.Sitting.TheVariants.{Idle, Attempts, CatchesUp, ClearsMail, Polls, StoresOwing, Turns, StoresCut, Leaves, LoadsDurable}
use Rattle.law_world.specs.Below.fkv_session.CatchingUp.{catch_ask, refresh_begun, wake_begun}
use Rattle.law_world.specs.Below.fkv_session.OwnTurns.{own_turn_ask, own_turn_begun, own_turn_given}
use Rattle.law_world.specs.Below.fkv_session.SessionRun.{SessionEvent, Begins, Replies, Gets, begins, session_happens, session_run}
use Rattle.law_world.specs.Below.fkv_session.Sessions as session
use Rattle.law_world.specs.Below.fkv_session.Sessions.{SessionState, Seat, is_busy, session_ask, answers, refuses, answers_after_turn, attempts, polls_request, polls_at, is_full, is_spent, refusal_of, op_begun, refresh_call, poll_begun, poll_call, sleep_call, wake_call, call_begun, attempt_left, poll_left, serial_taken, update_done, is_no_room, with_request, ticket_after, accepts, shifts, attempted, attempt_ledto, caught_up, catch_ledto, clear_ledto, is_finished, is_owed, request_finished, finishes_request, lacks_room, keeps_request, poll_ledto, turn_ledto, leave_ledto, attempt_moved, caught, own_turn_moved, sitting_next, is_word_ask, asks_after, session_next, sitting_given}
use Rattle.law_world.specs.Below.fkv_world.OwnEvents.{session_events}
use Rattle.law_world.specs.Below.fkv_world.Runs.{World, run}
use Rattle.law_world.specs.Below.fkv_world.World.{Event, seat_at}
use Rattle.law_world.specs.Guarded.Shows.{IsOpened}
use Rattle.law_refine.specs.Seen.Ops.{HasPlainOp, OpIsPlain}
use Rattle.law_refine.proofs.OfSeen.There.{was_there}

abbrev IsPlain : Op → Type 0
IsPlain op = is_reserved op ≡ false

same_plain : (s after : SessionState) (step : Sitting) → after.op ≡ s.op → OpIsPlain s step → OpIsPlain after step
same_plain s after (Attempts has_shifted) same plain = subst IsPlain (sym same) plain
same_plain s after (CatchesUp cause.Shifts) same plain = subst IsPlain (sym same) plain
same_plain s after step same plain = tt

still : (s : SessionState) (step : Sitting) → s.step ≡ step → OpIsPlain s step → HasPlainOp s
still s step at plain = subst (OpIsPlain s) (sym at) plain

either_plain : (b : Bool) (a c : SessionState) → HasPlainOp a → HasPlainOp c → HasPlainOp (if b then a else c)
either_plain true a c one other = one
either_plain false a c one other = other

-- ---- what goes on without the operation in hand
turns_plain : (s : SessionState) (its : Told) → HasPlainOp (answers_after_turn s its)
turns_plain s its = either_plain s.wants_turn (record s { own_turn = own_turn_begun s.own_turn; step = Turns its }) (answers s its) tt tt

request_plain : (k : Seat) (s : SessionState) (index : ℕ) (found : Option PendingRequest) → HasPlainOp (polls_request k s index found)
request_plain k s index None = turns_plain s (told.Polled (length s.requests))
request_plain k s index (Some pending) = tt

polls_plain : (k : Seat) (s : SessionState) (index : ℕ) → HasPlainOp (polls_at k s index)
unfolding polls_at
polls_plain k s index = request_plain k s index (slice_get s.requests index)

accepts_plain : (s : SessionState) (why : Reason) → HasPlainOp (accepts s why)
unfolding accepts
accepts_plain s why =
    either_plain (is_read s.op) (answers (with_request (record s { ticket = ticket_after s.ticket })) (told.PendingRead (record { 0 = ticket_after s.ticket })))
    (answers_after_turn (with_request (serial_taken (record s { wants_turn = is_no_room why }))) (told.Pending (record { 0 = s.serial + 1 }) why)) tt
    (turns_plain (with_request (serial_taken (record s { wants_turn = is_no_room why }))) (told.Pending (record { 0 = s.serial + 1 }) why))

finishes_plain : (k : Seat) (s : SessionState) (index : ℕ) (its : TryAnswer) → HasPlainOp (finishes_request k s index its)
unfolding finishes_request
finishes_plain k s index its = either_plain (is_owed s) (request_finished s index its) (polls_at k (request_finished s index its) index) tt (polls_plain k (request_finished s index its) index)

keeps_plain : (k : Seat) (s : SessionState) (index : ℕ) (its : TryAnswer) → HasPlainOp (keeps_request k s index its)
unfolding keeps_request
keeps_plain k s index its = polls_plain k (record s { requests = slice_set s.requests index s.attempt.pending; wants_turn = s.wants_turn || lacks_room its }) (index + 1)

polled_plain : (k : Seat) (s : SessionState) (index : ℕ) (ask : Ask TryAnswer) → s.step ≡ Polls index → HasPlainOp (poll_ledto k s index ask)
unfolding poll_ledto
polled_plain k s index (Done its) at =
    either_plain (is_finished its) (finishes_request k (poll_left s) index its) (keeps_request k (poll_left s) index its) (finishes_plain k (poll_left s) index its) (keeps_plain k (poll_left s) index its)
polled_plain k s index ask at = still s (Polls index) at tt

clear_plain : (k : Seat) (s : SessionState) (ask : Ask MailAnswer) → s.step ≡ ClearsMail → HasPlainOp (clear_ledto k s ask)
unfolding clear_ledto
clear_plain k s (Done mail.Cleared) at = polls_plain k (record s { is_orphaned = false }) 0
clear_plain k s (Done its) at = polls_plain k s 0
clear_plain k s ask at = still s ClearsMail at tt

turned_plain : (s : SessionState) (its : Told) (ask : Ask (Unit {0})) → s.step ≡ Turns its → HasPlainOp (turn_ledto s its ask)
unfolding turn_ledto
turned_plain s its (Done through) at = tt
turned_plain s its ask at = still s (Turns its) at tt

left_plain : (s : SessionState) (ask : Ask (Unit {0})) → s.step ≡ Leaves → HasPlainOp (leave_ledto s ask)
unfolding leave_ledto
left_plain s (Done its) at = tt
left_plain s ask at = still s Leaves at tt

-- ---- where it is attempted, and once more
shifts_plain : (s : SessionState) (has_shifted : Bool) → IsPlain s.op → HasPlainOp (shifts s has_shifted)
unfolding shifts
shifts_plain s false plain = plain
shifts_plain s true plain = accepts_plain s reason.Contended

attempted_plain : (s : SessionState) (has_shifted : Bool) (its : TryAnswer) → IsPlain s.op → HasPlainOp (attempted s has_shifted its)
attempted_plain s has_shifted (answer.Done made) plain = either_plain (is_read s.op) (answers s told.Absent) (update_done s made) tt tt
attempted_plain s has_shifted (answer.Found value) plain = tt
attempted_plain s has_shifted answer.Absent plain = tt
attempted_plain s has_shifted (answer.Wait why) plain = accepts_plain s why
attempted_plain s has_shifted (answer.AwaitsDisk sought) plain = accepts_plain s reason.Disk
attempted_plain s has_shifted answer.Shift plain = shifts_plain s has_shifted plain
attempted_plain s has_shifted answer.IndexFull plain = tt
attempted_plain s has_shifted answer.LogFull plain = tt

called_plain : (s : SessionState) (has_shifted : Bool) (ask : Ask TryAnswer) → s.step ≡ Attempts has_shifted → IsPlain s.op → HasPlainOp (attempt_ledto s has_shifted ask)
unfolding attempt_ledto
called_plain s has_shifted (Done its) at plain = attempted_plain (attempt_left s) has_shifted its plain
called_plain s has_shifted ask at plain = still s (Attempts has_shifted) at plain

attempts_plain : (k : Seat) (s : SessionState) (has_shifted : Bool) → IsPlain s.op → HasPlainOp (attempts k s has_shifted)
unfolding attempts
attempts_plain k s has_shifted plain = plain

caught_up_plain : (k : Seat) (s : SessionState) (its : CatchCause) → OpIsPlain s (CatchesUp its) → HasPlainOp (caught_up k s its)
caught_up_plain k s cause.Refreshes plain = tt
caught_up_plain k s cause.Wakes plain = tt
caught_up_plain k s cause.Shifts plain = attempts_plain k s true plain

catch_led_plain : (k : Seat) (s : SessionState) (its : CatchCause) (ask : Ask (Unit {0})) → s.step ≡ CatchesUp its → OpIsPlain s (CatchesUp its) → HasPlainOp (catch_ledto k s its ask)
unfolding catch_ledto
catch_led_plain k s its (Done through) at plain = caught_up_plain k (record s { seen = s.catching.seen }) its (same_plain s (record s { seen = s.catching.seen }) (CatchesUp its) refl plain)
catch_led_plain k s its ask at plain = still s (CatchesUp its) at plain

-- ---- each reply
next_sits : (k : Seat) (s : SessionState) (step : Sitting) (reply : ℕ) → s.step ≡ step → OpIsPlain s step → HasPlainOp (sitting_next k s step reply)
unfolding sitting_next
next_sits k s (Idle its) reply at plain = still s (Idle its) at tt
next_sits k s (Attempts has_shifted) reply at plain = let after : SessionState = attempt_moved k s reply in called_plain after has_shifted (attempt_ask k.places k.number after.attempt) at plain
next_sits k s (Polls index) reply at plain = let after : SessionState = attempt_moved k s reply in polled_plain k after index (attempt_ask k.places k.number after.attempt) at
next_sits k s (CatchesUp its) reply at plain =
    let after : SessionState = caught k s reply in
    catch_led_plain k after its (catch_ask k.places k.number after.catching after.requests) at (same_plain s after (CatchesUp its) refl plain)
next_sits k s ClearsMail reply at plain = clear_plain k (record s { mailing = mail_next s.mailing reply }) (mail_ask k.number (mail_next s.mailing reply)) at
next_sits k s (StoresOwing index) reply at plain = polls_plain k s index
next_sits k s (Turns its) reply at plain = let after : SessionState = own_turn_moved k s reply in turned_plain after its (own_turn_ask k.shape after.own_turn) at
next_sits k s StoresCut reply at plain = tt
next_sits k s Leaves reply at plain = left_plain (record s { leaving = leave_next s.leaving }) (leave_ask k.number (leave_next s.leaving)) at
next_sits k s LoadsDurable reply at plain = tt

next_plain : (k : Seat) (s : SessionState) (reply : ℕ) → HasPlainOp s → HasPlainOp (session_next k s reply)
next_plain k s reply plain =
    let now : SessionState = record s { asks = asks_after s.asks (is_word_ask (session_ask k s)); effect = None } in
    next_sits k now s.step reply refl (same_plain s now s.step refl plain)

-- an action that it gets
given_plain : (k : Seat) (s : SessionState) (step : Sitting) (action : Action) → s.step ≡ step → HasPlainOp s → HasPlainOp (sitting_given k s step action)
unfolding sitting_given
given_plain k s (Turns its) action at plain = let after : SessionState = record s { own_turn = own_turn_given s.own_turn action } in turned_plain after its (own_turn_ask k.shape after.own_turn) at
given_plain k s step action at plain = plain

-- ---- a call that begins is refused if its operation brings such a number
not_refused : (asleep reserved : Bool) (rest : Option Fault) → (if asleep then Some fault.Asleep else if reserved then Some fault.ValueReserved else rest) ≡ None → reserved ≡ false
not_refused true reserved rest e = cc
not_refused false true rest e = cc
not_refused false false rest e = refl

op_plain : (k : Seat) (s : SessionState) (op : Op) (why : Option Fault) → refusal_of s op ≡ why → HasPlainOp (op_begun k s op why)
unfolding op_begun
op_plain k s op (Some why) e = tt
op_plain k s op None e =
    attempts_plain k (record s { op = op }) false
    (not_refused (not s.is_awake) (is_reserved op) (if is_full s.requests then Some fault.PendingFull else if is_spent s op then Some fault.SerialsSpent else None) e)

clears_plain : (k : Seat) (s : SessionState) → HasPlainOp (poll_begun k s)
clears_plain k s = either_plain s.is_orphaned (record s { mailing = LoadsState Clear; step = ClearsMail }) (polls_at k s 0) tt (polls_plain k s 0)

call_plain : (k : Seat) (s : SessionState) (its : Call) → HasPlainOp (call_begun k s its)
unfolding refresh_call poll_call sleep_call wake_call
call_plain k s (call.Op op) = op_plain k s op (refusal_of s op) refl
call_plain k s call.Refresh = either_plain s.is_awake (record s { catching = refresh_begun s.catching s.seen s.serial; step = CatchesUp cause.Refreshes }) (refuses s fault.Asleep) tt tt
call_plain k s call.Poll = either_plain s.is_awake (poll_begun k (record s { finished = [] })) (refuses s fault.Asleep) (clears_plain k (record s { finished = [] })) tt
call_plain k s call.Sleep =
    either_plain (not s.is_awake) (refuses s fault.Asleep) (if length s.requests == 0 then record s { step = StoresCut } else refuses s fault.PendingLeft) tt
    (either_plain (length s.requests == 0) (record s { step = StoresCut }) (refuses s fault.PendingLeft) tt tt)
call_plain k s call.Wake = either_plain s.is_awake (refuses s fault.Awake) (record s { catching = wake_begun s.catching s.seen s.serial; step = CatchesUp cause.Wakes }) tt tt
call_plain k s call.Durable = tt

begins_plain : (k : Seat) (s : SessionState) (busy : Bool) (its : Call) → HasPlainOp s → HasPlainOp (begins k s busy its)
begins_plain k s true its plain = plain
begins_plain k s false its plain = call_plain k (record s { asks = 0; effect = None; wants_turn = false }) its

-- ---- a run, from a session that has no call in hand
event_plain : (k : Seat) (s : SessionState) (event : SessionEvent) → HasPlainOp s → HasPlainOp (session_happens k s event)
unfolding session_happens
event_plain k s (Begins its) plain = begins_plain k s (is_busy s.step) its plain
event_plain k s (Replies reply) plain = next_plain k s reply plain
event_plain k s (Gets action) plain = given_plain k s s.step action refl plain

idle_plain : (s : SessionState) (step : Sitting) → is_busy step ≡ false → OpIsPlain s step
idle_plain s (Idle its) idle = tt
idle_plain s step idle = cc

pub own_op_kept : (k : Seat) (first : SessionState) (events : List SessionEvent) → session.IsOpened first → HasPlainOp (session_run k first events)
unfolding session_run
own_op_kept k first [] opened = idle_plain first first.step opened.none_in_hand
own_op_kept k first (event ∷ before) opened = event_plain k (session_run k first before) event (own_op_kept k first before opened)

-- and a session of a life
pub life_op_kept : (opening : World) (start : ℕ) (events : List Event) (number : ℕ) (s : SessionState) → IsOpened opening.now start → slice_get (run opening events).now.sessions number ≡ Some s → HasPlainOp s
life_op_kept opening start events number s opened found =
    let its = was_there opening events number s found in
    subst HasPlainOp (sym its.became) (own_op_kept (seat_at opening.now number) its.first (session_events opening number events) (opened.sessions number its.first its.was))
