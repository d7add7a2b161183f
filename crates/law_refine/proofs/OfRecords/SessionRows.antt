-- So it is with a session: at each reply, where a call begins, and where an action comes to it.
use Rattle.std.proofs.Common.{◌≡◌, ℕ, ◌+◌, List, [], length, refl, sym, subst, Bool, true, false}
use Rattle.std.specs.Prelude.{slice_get, slice_set, Option, Some, None, if◌then◌else◌, not, ◌==◌, ◌||◌, ⊤}
use Rattle.fkv_base.specs.declared.faults.Fault.{Fault}
use Rattle.fkv_base.specs.declared.faults.Fault.TheVariants as fault
use Rattle.fkv_map.specs.declared.operations.Call.{Call}
use Rattle.fkv_map.specs.declared.operations.Call.TheVariants as call
use Rattle.fkv_map.specs.declared.operations.Op.{Op}
use Rattle.fkv_map.specs.Map.{is_reserved}
use Rattle.fkv_plane.specs.declared.actions.Action.{Action}
use Rattle.fkv_plane.specs.declared.asks.Ask.{Ask}
use Rattle.fkv_plane.specs.declared.asks.Ask.TheVariants.{Done}
use Rattle.fkv_epoch.specs.Leaving.{leave_ask, leave_next}
use Rattle.law_world.specs.Below.fkv_ops.Reason.{Reason}
use Rattle.law_world.specs.Below.fkv_ops.Reason.TheVariants as reason
use Rattle.law_world.specs.Below.fkv_ops.TryAnswer.{TryAnswer}
use Rattle.law_world.specs.Below.fkv_ops.TryAnswer.TheVariants as answer
use Rattle.law_world.specs.Below.fkv_ops.Occasion.TheVariants.{Call as AtCall, Poll as AtPoll}
use Rattle.law_world.specs.Below.fkv_ops.Bounds.{bounds_of}
use Rattle.law_world.specs.Below.fkv_ops.Requests.{is_read}
use Rattle.law_world.specs.Below.fkv_pending.MailAnswer.{MailAnswer}
use Rattle.law_world.specs.Below.fkv_pending.MailAnswer.TheVariants as mail
use Rattle.law_world.specs.Below.fkv_pending.MailTask.TheVariants.{Clear}
use Rattle.law_world.specs.Below.fkv_pending.TheMailing.TheVariants.{LoadsState}
use Rattle.law_world.specs.Below.fkv_pending.PendingRequest.{PendingRequest}
use Rattle.law_world.specs.Below.fkv_pending.Mailing.{mail_ask, mail_next}
use Rattle.law_world.specs.Below.fkv_pending.Attempting.{attempt_ask}
use Rattle.law_world.specs.Below.fkv_session.Told.{Told}
use Rattle.law_world.specs.Below.fkv_session.Told.TheVariants as told
use Rattle.law_world.specs.Below.fkv_session.CatchCause.{CatchCause}
use Rattle.law_world.specs.Below.fkv_session.CatchCause.TheVariants as cause
use Rattle.law_world.specs.Below.fkv_session.Sitting.{Sitting}
use Rattle.law_world.specs.Below.fkv_session.Sitting.TheVariants.{Idle, Attempts, CatchesUp, ClearsMail, Polls, StoresOwing, Turns, StoresCut, Leaves, LoadsDurable}
use Rattle.law_world.specs.Below.fkv_session.CatchingUp.{catch_ask}
use Rattle.law_world.specs.Below.fkv_session.OwnTurns.{own_turn_ask, own_turn_begun, own_turn_given}
use Rattle.law_world.specs.Below.fkv_session.Sessions.{SessionState, Seat, bits_of, is_busy, session_ask, session_next, session_begun, answers, answers_after_turn, request_in_hand, attempts, polls_request, polls_at, update_done, is_no_room, with_request, serial_taken, ticket_after, accepts, shifts, attempted, attempt_left, poll_left, attempt_ledto, caught_up, catch_ledto, clear_ledto, is_finished, is_owed, request_finished, finishes_request, lacks_room, keeps_request, poll_ledto, turn_ledto, leave_ledto, attempt_moved, caught, own_turn_moved, sitting_next, sitting_given, is_word_ask, asks_after, is_full, is_spent, refusal_of, op_begun, refresh_call, poll_begun, poll_call, sleep_call, wake_call, call_begun}
use Rattle.law_world.specs.Below.fkv_world.World.{session_called}
use Rattle.law_refine.proofs.OfRecords.AppendRows.{Standing}
use Rattle.law_refine.proofs.OfRecords.AttemptRows.{IsAllowed, IsAttemptSo, AttemptWrites, moved_so, attempt_so}
use Rattle.law_refine.proofs.OfCalls.Named.{AreEach, caught_each, each_at, each_less, each_more, each_set}

-- ---- the requests that wait
abbrev pub AreAllowed : List PendingRequest → Type 0
AreAllowed requests = AreEach (λ name op. IsAllowed op) requests

-- ---- a session; a call in hand that shifts is tried again
abbrev CatchIsSo : Op → CatchCause → Type 0
CatchIsSo op cause.Shifts = IsAllowed op
CatchIsSo op its = ⊤

abbrev pub StepIsSo : Standing → SessionState → Sitting → Type 0
StepIsSo stands s (Attempts has_shifted) = IsAttemptSo stands s.attempt × IsAllowed s.op
StepIsSo stands s (Polls index) = IsAttemptSo stands s.attempt
StepIsSo stands s (CatchesUp its) = CatchIsSo s.op its
StepIsSo stands s step = ⊤

pub record IsSo (stands : Standing) (s : SessionState) : Type 0 where
  pub waiting : AreAllowed s.requests
  pub sits : StepIsSo stands s s.step

abbrev pub SittingWrites : Standing → Standing → SessionState → Sitting → Type 0
SittingWrites stands after s (Attempts has_shifted) = AttemptWrites stands after s.attempt s.attempt.step
SittingWrites stands after s (Polls index) = AttemptWrites stands after s.attempt s.attempt.step
SittingWrites stands after s step = ⊤

either_so : (after : Standing) (c : Bool) (a b : SessionState) → IsSo after a → IsSo after b → IsSo after (if c then a else b)
either_so after true a b one other = one
either_so after false a b one other = other

still_so : (after : Standing) (s : SessionState) (step : Sitting) → s.step ≡ step → AreAllowed s.requests → StepIsSo after s step → IsSo after s
still_so after s step at all its = record { waiting = all; sits = subst (StepIsSo after s) (sym at) its }

plain : (after : Standing) (s : SessionState) (its : Told) → AreAllowed s.requests → IsSo after (answers s its)
plain after s its all = record { waiting = all; sits = tt }

attempts_so : (after : Standing) (k : Seat) (s : SessionState) (has_shifted : Bool) → AreAllowed s.requests → IsAllowed s.op → IsSo after (attempts k s has_shifted)
unfolding attempts
attempts_so after k s has_shifted all allowed = record { waiting = all; sits = (attempt_so after k.places (bits_of k) (request_in_hand s) s.seen (AtCall (bounds_of k.shape)) s.spare s.is_orphaned allowed, allowed) }

turns_so : (after : Standing) (s : SessionState) (its : Told) → AreAllowed s.requests → IsSo after (answers_after_turn s its)
turns_so after s its all = either_so after s.wants_turn (record s { own_turn = own_turn_begun s.own_turn; step = Turns its }) (answers s its) (record { waiting = all; sits = tt }) (plain after s its all)

request_so : (after : Standing) (k : Seat) (s : SessionState) (index : ℕ) (found : Option PendingRequest) → slice_get s.requests index ≡ found → AreAllowed s.requests → IsSo after (polls_request k s index found)
request_so after k s index None got all = turns_so after s _ all
request_so after k s index (Some pending) got all = record { waiting = all; sits = attempt_so after k.places (bits_of k) pending s.seen AtPoll s.spare s.is_orphaned (each_at (λ name op. IsAllowed op) s.requests index pending got all) }

polls_so : (after : Standing) (k : Seat) (s : SessionState) (index : ℕ) → AreAllowed s.requests → IsSo after (polls_at k s index)
unfolding polls_at
polls_so after k s index all = request_so after k s index (slice_get s.requests index) refl all

accepts_so : (after : Standing) (s : SessionState) (why : Reason) → AreAllowed s.requests → IsAllowed s.attempt.pending.request.op → IsSo after (accepts s why)
unfolding accepts
accepts_so after s why all allowed =
    let more = each_more (λ name op. IsAllowed op) s.requests s.attempt.pending all allowed in
    either_so after (is_read s.op) (answers (with_request (record s { ticket = ticket_after s.ticket })) (told.PendingRead (record { 0 = ticket_after s.ticket })))
    (answers_after_turn (with_request (serial_taken (record s { wants_turn = is_no_room why }))) (told.Pending (record { 0 = s.serial + 1 }) why))
    (plain after (with_request (record s { ticket = ticket_after s.ticket })) (told.PendingRead (record { 0 = ticket_after s.ticket })) more)
    (turns_so after (with_request (serial_taken (record s { wants_turn = is_no_room why }))) (told.Pending (record { 0 = s.serial + 1 }) why) more)

shifts_so : (after : Standing) (s : SessionState) (has_shifted : Bool) → AreAllowed s.requests → IsAllowed s.attempt.pending.request.op → IsAllowed s.op → IsSo after (shifts s has_shifted)
unfolding shifts
shifts_so after s false all allowed its = record { waiting = all; sits = its }
shifts_so after s true all allowed its = accepts_so after s reason.Contended all allowed

attempted_so : (after : Standing) (s : SessionState) (has_shifted : Bool) (its : TryAnswer) → AreAllowed s.requests → IsAllowed s.attempt.pending.request.op → IsAllowed s.op → IsSo after (attempted s has_shifted its)
attempted_so after s has_shifted (answer.Done its) all allowed op = either_so after (is_read s.op) (answers s told.Absent) (update_done s its) (plain after s told.Absent all) (record { waiting = all; sits = tt })
attempted_so after s has_shifted (answer.Found value) all allowed op = plain after s (told.Found value) all
attempted_so after s has_shifted answer.Absent all allowed op = plain after s told.Absent all
attempted_so after s has_shifted (answer.Wait why) all allowed op = accepts_so after s why all allowed
attempted_so after s has_shifted (answer.AwaitsDisk sought) all allowed op = accepts_so after s reason.Disk all allowed
attempted_so after s has_shifted answer.Shift all allowed op = shifts_so after s has_shifted all allowed op
attempted_so after s has_shifted answer.IndexFull all allowed op = record { waiting = all; sits = tt }
attempted_so after s has_shifted answer.LogFull all allowed op = record { waiting = all; sits = tt }

called_so : (after : Standing) (s : SessionState) (has_shifted : Bool) (ask : Ask TryAnswer) → s.step ≡ Attempts has_shifted → AreAllowed s.requests → IsAttemptSo after s.attempt → IsAllowed s.op → IsSo after (attempt_ledto s has_shifted ask)
unfolding attempt_ledto
called_so after s has_shifted (Done its) at all tries op = attempted_so after (attempt_left s) has_shifted its all tries.allowed op
called_so after s has_shifted ask at all tries op = still_so after s (Attempts has_shifted) at all (tries, op)

finishes_so : (after : Standing) (k : Seat) (s : SessionState) (index : ℕ) (its : TryAnswer) → AreAllowed s.requests → IsSo after (finishes_request k s index its)
unfolding finishes_request
finishes_so after k s index its all =
    let less = each_less (λ name op. IsAllowed op) s.requests index all in
    either_so after (is_owed s) (request_finished s index its) (polls_at k (request_finished s index its) index) (record { waiting = less; sits = tt }) (polls_so after k (request_finished s index its) index less)

keeps_so : (after : Standing) (k : Seat) (s : SessionState) (index : ℕ) (its : TryAnswer) → AreAllowed s.requests → IsAllowed s.attempt.pending.request.op → IsSo after (keeps_request k s index its)
unfolding keeps_request
keeps_so after k s index its all allowed =
    polls_so after k (record s { requests = slice_set s.requests index s.attempt.pending; wants_turn = s.wants_turn || lacks_room its }) (index + 1) (each_set (λ name op. IsAllowed op) s.requests index s.attempt.pending all allowed)

polled_so : (after : Standing) (k : Seat) (s : SessionState) (index : ℕ) (ask : Ask TryAnswer) → s.step ≡ Polls index → AreAllowed s.requests → IsAttemptSo after s.attempt → IsSo after (poll_ledto k s index ask)
unfolding poll_ledto
polled_so after k s index (Done its) at all tries =
    either_so after (is_finished its) (finishes_request k (poll_left s) index its) (keeps_request k (poll_left s) index its)
    (finishes_so after k (poll_left s) index its all) (keeps_so after k (poll_left s) index its all tries.allowed)
polled_so after k s index ask at all tries = still_so after s (Polls index) at all tries

caught_so : (after : Standing) (k : Seat) (s : SessionState) (its : CatchCause) → AreAllowed s.requests → CatchIsSo s.op its → IsSo after (caught_up k s its)
caught_so after k s cause.Refreshes all op = record { waiting = all; sits = tt }
caught_so after k s cause.Wakes all op = record { waiting = all; sits = tt }
caught_so after k s cause.Shifts all op = attempts_so after k s true all op

catch_so : (after : Standing) (k : Seat) (s : SessionState) (its : CatchCause) (ask : Ask (Unit {0})) → s.step ≡ CatchesUp its → AreAllowed s.requests → CatchIsSo s.op its → IsSo after (catch_ledto k s its ask)
unfolding catch_ledto
catch_so after k s its (Done through) at all op = caught_so after k (record s { seen = s.catching.seen }) its all op
catch_so after k s its ask at all op = still_so after s (CatchesUp its) at all op

clear_so : (after : Standing) (k : Seat) (s : SessionState) (ask : Ask MailAnswer) → s.step ≡ ClearsMail → AreAllowed s.requests → IsSo after (clear_ledto k s ask)
unfolding clear_ledto
clear_so after k s (Done mail.Cleared) at all = polls_so after k (record s { is_orphaned = false }) 0 all
clear_so after k s (Done its) at all = polls_so after k s 0 all
clear_so after k s ask at all = still_so after s ClearsMail at all tt

turned_so : (after : Standing) (s : SessionState) (its : Told) (ask : Ask (Unit {0})) → s.step ≡ Turns its → AreAllowed s.requests → IsSo after (turn_ledto s its ask)
unfolding turn_ledto
turned_so after s its (Done through) at all = plain after s its all
turned_so after s its ask at all = still_so after s (Turns its) at all tt

left_so : (after : Standing) (s : SessionState) (ask : Ask (Unit {0})) → s.step ≡ Leaves → AreAllowed s.requests → IsSo after (leave_ledto s ask)
unfolding leave_ledto
left_so after s (Done its) at all = record { waiting = all; sits = tt }
left_so after s ask at all = still_so after s Leaves at all tt

-- ---- each reply
sitting_so : (stands after : Standing) (k : Seat) (s : SessionState) (step : Sitting) (reply : ℕ) → s.step ≡ step → AreAllowed s.requests → StepIsSo stands s step → SittingWrites stands after s step → IsSo after (sitting_next k s step reply)
unfolding sitting_next
sitting_so stands after k s (Idle its) reply at all so writes = still_so after s (Idle its) at all tt
sitting_so stands after k s (Attempts has_shifted) reply at all so writes =
    let there : SessionState = attempt_moved k s reply in
    called_so after there has_shifted (attempt_ask k.places k.number there.attempt) at all (moved_so stands after k s.attempt reply so.0 writes) so.1
sitting_so stands after k s (Polls index) reply at all so writes =
    let there : SessionState = attempt_moved k s reply in
    polled_so after k there index (attempt_ask k.places k.number there.attempt) at all (moved_so stands after k s.attempt reply so writes)
sitting_so stands after k s (CatchesUp its) reply at all so writes =
    let there : SessionState = caught k s reply in
    catch_so after k there its (catch_ask k.places k.number there.catching there.requests) at (caught_each (λ name op. IsAllowed op) s.catching s.requests s.catching.step reply all) so
sitting_so stands after k s ClearsMail reply at all so writes = clear_so after k (record s { mailing = mail_next s.mailing reply }) (mail_ask k.number (mail_next s.mailing reply)) at all
sitting_so stands after k s (StoresOwing index) reply at all so writes = polls_so after k s index all
sitting_so stands after k s (Turns its) reply at all so writes =
    let there : SessionState = own_turn_moved k s reply in
    turned_so after there its (own_turn_ask k.shape there.own_turn) at all
sitting_so stands after k s StoresCut reply at all so writes = record { waiting = all; sits = tt }
sitting_so stands after k s Leaves reply at all so writes = left_so after (record s { leaving = leave_next s.leaving }) (leave_ask k.number (leave_next s.leaving)) at all
sitting_so stands after k s LoadsDurable reply at all so writes = record { waiting = all; sits = tt }

pub reply_so : (stands after : Standing) (k : Seat) (s : SessionState) (reply : ℕ) → IsSo stands s → SittingWrites stands after s s.step → IsSo after (session_next k s reply)
reply_so stands after k s reply so writes = sitting_so stands after k (record s { asks = asks_after s.asks (is_word_ask (session_ask k s)); effect = None }) s.step reply refl so.waiting (here s.step so.sits) (there s.step writes)
  where
    asks : ℕ
    asks = asks_after s.asks (is_word_ask (session_ask k s))

    here : (step : Sitting) → StepIsSo stands s step → StepIsSo stands (record s { asks = asks; effect = None }) step
    here (Attempts has_shifted) its = its
    here (Polls index) its = its
    here (CatchesUp cause) its = its
    here step its = tt

    there : (step : Sitting) → SittingWrites stands after s step → SittingWrites stands after (record s { asks = asks; effect = None }) step
    there (Attempts has_shifted) its = its
    there (Polls index) its = its
    there step its = tt

-- an action that it gets
given_so : (after : Standing) (k : Seat) (s : SessionState) (step : Sitting) (action : Action) → s.step ≡ step → IsSo after s → IsSo after (sitting_given k s step action)
unfolding sitting_given
given_so after k s (Turns its) action at so =
    let there : SessionState = record s { own_turn = own_turn_given s.own_turn action } in
    turned_so after there its (own_turn_ask k.shape there.own_turn) at so.waiting
given_so after k s step action at so = so

pub gets_so : (after : Standing) (k : Seat) (s : SessionState) (action : Action) → IsSo after s → IsSo after (sitting_given k s s.step action)
gets_so after k s action so = given_so after k s s.step action refl so

-- ---- a call that begins: one that brings the word for no value is refused
not_refused : (s : SessionState) (op : Op) → refusal_of s op ≡ None → IsAllowed op
not_refused s op e = by_tests s.is_awake (is_reserved op) refl e
  where
    by_tests : (awake reserved : Bool) → is_reserved op ≡ reserved
        → (if not awake then Some fault.Asleep else if reserved then Some fault.ValueReserved else if is_full s.requests then Some fault.PendingFull else if is_spent s op then Some fault.SerialsSpent else None) ≡ None → is_reserved op ≡ false
    by_tests false reserved its e = cc
    by_tests true true its e = cc
    by_tests true false its e = its

op_so : (after : Standing) (k : Seat) (s : SessionState) (op : Op) (why : Option Fault) → refusal_of s op ≡ why → AreAllowed s.requests → IsSo after (op_begun k s op why)
unfolding op_begun
op_so after k s op (Some why) e all = record { waiting = all; sits = tt }
op_so after k s op None e all = attempts_so after k (record s { op = op }) false all (not_refused s op e)

clears_so : (after : Standing) (k : Seat) (s : SessionState) → AreAllowed s.requests → IsSo after (poll_begun k s)
clears_so after k s all = either_so after s.is_orphaned (record s { mailing = LoadsState Clear; step = ClearsMail }) (polls_at k s 0) (record { waiting = all; sits = tt }) (polls_so after k s 0 all)

call_so : (after : Standing) (k : Seat) (s : SessionState) (its : Call) → AreAllowed s.requests → IsSo after (call_begun k s its)
unfolding refresh_call poll_call sleep_call wake_call
call_so after k s (call.Op op) all = op_so after k s op (refusal_of s op) refl all
call_so after k s call.Refresh all = either_so after s.is_awake _ _ (record { waiting = all; sits = tt }) (record { waiting = all; sits = tt })
call_so after k s call.Poll all = either_so after s.is_awake _ _ (clears_so after k (record s { finished = [] }) all) (record { waiting = all; sits = tt })
call_so after k s call.Sleep all = either_so after (not s.is_awake) _ _ (record { waiting = all; sits = tt }) (either_so after (length s.requests == 0) _ _ (record { waiting = all; sits = tt }) (record { waiting = all; sits = tt }))
call_so after k s call.Wake all = either_so after s.is_awake _ _ (record { waiting = all; sits = tt }) (record { waiting = all; sits = tt })
call_so after k s call.Durable all = record { waiting = all; sits = tt }

pub called_now_so : (after : Standing) (k : Seat) (s : SessionState) (its : Call) → IsSo after s → IsSo after (session_called k s its)
called_now_so after k s its so = either_so after (is_busy s.step) s (session_begun k s its) so (call_so after k (record s { asks = 0; effect = None; wants_turn = false }) its so.waiting)

-- as its store was opened
pub opened_so : (after : Standing) (s : SessionState) (step : Sitting) → s.step ≡ step → is_busy step ≡ false → s.requests ≡ [] → IsSo after s
opened_so after s (Idle its) at idle none = still_so after s (Idle its) at (subst AreAllowed (sym none) tt) tt
opened_so after s step at idle none = cc
