-- The floor of a session never falls: the attempt of a poll may raise it, and nothing else changes it.
use Rattle.std.proofs.Common.{ℕ, ◌≤◌, sym, subst, arith, Bool, true, false}
use Rattle.std.specs.Prelude.{if◌then◌else◌, not, length, ◌==◌, ◌||◌, ◌+◌, [], Option, Some, None, slice_get, slice_set}
use Rattle.fkv_base.specs.declared.faults.Fault.{Fault}
use Rattle.fkv_map.specs.declared.operations.Call.{Call}
use Rattle.fkv_map.specs.declared.operations.Call.TheVariants as call
use Rattle.fkv_map.specs.declared.operations.Op.{Op}
use Rattle.fkv_plane.specs.declared.actions.Action.{Action}
use Rattle.fkv_plane.specs.declared.asks.Ask.{Ask}
use Rattle.fkv_plane.specs.declared.asks.Ask.TheVariants.{Put, Take, Done}
use Rattle.fkv_plane.specs.Asked.{reply_to}
use Rattle.fkv_plane.specs.Plane.{action_at}
use Rattle.law_refine.specs.Below.fkv_ops.Requests.{is_read}
use Rattle.law_refine.specs.Below.fkv_ops.Reason.{Reason}
use Rattle.law_refine.specs.Below.fkv_ops.Reason.TheVariants as reason
use Rattle.law_refine.specs.Below.fkv_ops.TryAnswer.{TryAnswer}
use Rattle.law_refine.specs.Below.fkv_ops.TryAnswer.TheVariants as tried
use Rattle.law_refine.specs.Below.fkv_pending.MailAnswer.{MailAnswer}
use Rattle.law_refine.specs.Below.fkv_pending.MailAnswer.TheVariants as mail
use Rattle.law_refine.specs.Below.fkv_pending.Mailing.{mail_next}
use Rattle.law_refine.specs.Below.fkv_pending.PendingRequest.{PendingRequest}
use Rattle.law_refine.specs.Below.fkv_session.OwnTurns.{own_turn_given}
use Rattle.fkv_epoch.specs.Leaving.{leave_next}
use Rattle.law_refine.specs.Below.fkv_session.Told.{Told}
use Rattle.law_refine.specs.Below.fkv_session.CatchCause.{CatchCause}
use Rattle.law_refine.specs.Below.fkv_session.CatchCause.TheVariants.{Refreshes, Wakes, Shifts}
use Rattle.law_refine.specs.Below.fkv_session.Sitting.{Sitting}
use Rattle.law_refine.specs.Below.fkv_session.Sitting.TheVariants.{Idle, Attempts, CatchesUp, ClearsMail, Polls, StoresOwing, Turns, StoresCut, Leaves, LoadsDurable}
use Rattle.law_refine.specs.Below.fkv_session.Sessions.{SessionState, Seat, accepts, answers_after_turn, asks_after, attempt_ledto, attempt_left, attempt_moved, attempted, attempts, call_begun, catch_ledto, caught, caught_up, clear_ledto, finishes_request, is_finished, is_no_room, is_owed, is_word_ask, keeps_request, lacks_room, leave_ledto, op_begun, own_turn_moved, poll_call, poll_ledto, poll_left, polls_at, polls_request, refresh_call, refusal_of, request_finished, serial_taken, session_ask, session_next, shifts, sitting_given, sitting_next, sleep_call, turn_ledto, wake_call, with_request}
use Rattle.law_refine.specs.Below.fkv_world.Moves.{Near, session_asks, session_gets, session_replied, session_settled}
use Rattle.law_refine.specs.Below.fkv_world.Runs.{World}
use Rattle.law_refine.specs.Below.fkv_world.World.{near, seat_at}
use Rattle.law_opening.proofs.OfChanges.OfSessions.Comes.{SessionComes, Begins, Stays, Steps}

module _ (low : ℕ) where
  -- the session's floor lies there or above
  abbrev pub IsFrom : SessionState → Type 0
  IsFrom s = low ≤ s.floor.0

  either_from : (c : Bool) (one other : SessionState) → IsFrom one → IsFrom other → IsFrom (if c then one else other)
  either_from true one other is or = is
  either_from false one other is or = or

  -- ---- where a call begins
  turned_from : (s : SessionState) (its : Told) → IsFrom s → IsFrom (answers_after_turn s its)
  turned_from s its from = either_from s.wants_turn _ _ from from

  attempts_from : (k : Seat) (s : SessionState) (has_shifted : Bool) → IsFrom s → IsFrom (attempts k s has_shifted)
  unfolding attempts
  attempts_from k s has_shifted from = from

  request_from : (k : Seat) (s : SessionState) (index : ℕ) (found : Option PendingRequest) → IsFrom s → IsFrom (polls_request k s index found)
  request_from k s index None from = turned_from s _ from
  request_from k s index (Some pending) from = from

  polls_from : (k : Seat) (s : SessionState) (index : ℕ) → IsFrom s → IsFrom (polls_at k s index)
  unfolding polls_at
  polls_from k s index from = request_from k s index (slice_get s.requests index) from

  op_from : (k : Seat) (s : SessionState) (op : Op) (found : Option Fault) → IsFrom s → IsFrom (op_begun k s op found)
  unfolding op_begun
  op_from k s op (Some why) from = from
  op_from k s op None from = attempts_from k (record s { op = op }) false from

  begun_from : (k : Seat) (s : SessionState) (its : Call) → IsFrom s → IsFrom (call_begun k s its)
  unfolding refresh_call poll_call sleep_call wake_call
  begun_from k s (call.Op op) from = op_from k s op (refusal_of s op) from
  begun_from k s call.Refresh from = either_from s.is_awake _ _ from from
  begun_from k s call.Poll from = either_from s.is_awake _ _ (either_from s.is_orphaned _ _ from (polls_from k (record s { finished = [] }) 0 from)) from
  begun_from k s call.Sleep from = either_from (not s.is_awake) _ _ from (either_from (length s.requests == 0) _ _ from from)
  begun_from k s call.Wake from = either_from s.is_awake _ _ from from
  begun_from k s call.Durable from = from

  -- ---- where an attempt ends
  accepts_from : (s : SessionState) (why : Reason) → IsFrom s → IsFrom (accepts s why)
  unfolding accepts
  accepts_from s why from = either_from (is_read s.op) _ _ from (turned_from (with_request (serial_taken (record s { wants_turn = is_no_room why }))) _ from)

  shifts_from : (s : SessionState) (has_shifted : Bool) → IsFrom s → IsFrom (shifts s has_shifted)
  unfolding shifts
  shifts_from s false from = from
  shifts_from s true from = accepts_from s reason.Contended from

  attempted_from : (s : SessionState) (has_shifted : Bool) (its : TryAnswer) → IsFrom s → IsFrom (attempted s has_shifted its)
  attempted_from s has_shifted (tried.Done its) from = either_from (is_read s.op) _ _ from from
  attempted_from s has_shifted (tried.Found value) from = from
  attempted_from s has_shifted tried.Absent from = from
  attempted_from s has_shifted (tried.Wait why) from = accepts_from s why from
  attempted_from s has_shifted (tried.AwaitsDisk sought) from = accepts_from s reason.Disk from
  attempted_from s has_shifted tried.Shift from = shifts_from s has_shifted from
  attempted_from s has_shifted tried.IndexFull from = from
  attempted_from s has_shifted tried.LogFull from = from

  attempt_from : (s : SessionState) (has_shifted : Bool) (ask : Ask TryAnswer) → IsFrom s → IsFrom (attempt_ledto s has_shifted ask)
  unfolding attempt_ledto
  attempt_from s has_shifted (Done its) from = attempted_from (attempt_left s) has_shifted its from
  attempt_from s has_shifted ask from = from

  -- that of a poll raises it
  left_from : (s : SessionState) → IsFrom s → IsFrom (poll_left s)
  left_from s from = omega (arith, from)

  finishes_from : (k : Seat) (s : SessionState) (index : ℕ) (its : TryAnswer) → IsFrom s → IsFrom (finishes_request k s index its)
  unfolding finishes_request
  finishes_from k s index its from = either_from (is_owed s) _ _ from (polls_from k (request_finished s index its) index from)

  keeps_from : (k : Seat) (s : SessionState) (index : ℕ) (its : TryAnswer) → IsFrom s → IsFrom (keeps_request k s index its)
  unfolding keeps_request
  keeps_from k s index its from = polls_from k (record s { requests = slice_set s.requests index s.attempt.pending; wants_turn = s.wants_turn || lacks_room its }) (index + 1) from

  poll_from : (k : Seat) (s : SessionState) (index : ℕ) (ask : Ask TryAnswer) → IsFrom s → IsFrom (poll_ledto k s index ask)
  unfolding poll_ledto
  poll_from k s index (Done its) from = either_from (is_finished its) _ _ (finishes_from k (poll_left s) index its (left_from s from)) (keeps_from k (poll_left s) index its (left_from s from))
  poll_from k s index ask from = from

  -- ---- by each reply
  caught_from : (k : Seat) (s : SessionState) (cause : CatchCause) → IsFrom s → IsFrom (caught_up k s cause)
  caught_from k s Refreshes from = from
  caught_from k s Wakes from = from
  caught_from k s Shifts from = attempts_from k s true from

  catch_from : (k : Seat) (s : SessionState) (cause : CatchCause) (ask : Ask (Unit {0})) → IsFrom s → IsFrom (catch_ledto k s cause ask)
  unfolding catch_ledto
  catch_from k s cause (Done its) from = caught_from k (record s { seen = s.catching.seen }) cause from
  catch_from k s cause ask from = from

  clear_from : (k : Seat) (s : SessionState) (ask : Ask MailAnswer) → IsFrom s → IsFrom (clear_ledto k s ask)
  unfolding clear_ledto
  clear_from k s (Done mail.Cleared) from = polls_from k (record s { is_orphaned = false }) 0 from
  clear_from k s (Done its) from = polls_from k s 0 from
  clear_from k s ask from = from

  turn_from : (s : SessionState) (its : Told) (ask : Ask (Unit {0})) → IsFrom s → IsFrom (turn_ledto s its ask)
  unfolding turn_ledto
  turn_from s its (Done through) from = from
  turn_from s its ask from = from

  leave_from : (s : SessionState) (ask : Ask (Unit {0})) → IsFrom s → IsFrom (leave_ledto s ask)
  unfolding leave_ledto
  leave_from s (Done its) from = from
  leave_from s ask from = from

  sitting_from : (k : Seat) (s : SessionState) (step : Sitting) (reply : ℕ) → IsFrom s → IsFrom (sitting_next k s step reply)
  unfolding sitting_next
  sitting_from k s (Idle its) reply from = from
  sitting_from k s (Attempts has_shifted) reply from = attempt_from (attempt_moved k s reply) has_shifted _ from
  sitting_from k s (CatchesUp cause) reply from = catch_from k (caught k s reply) cause _ from
  sitting_from k s ClearsMail reply from = clear_from k (record s { mailing = mail_next s.mailing reply }) _ from
  sitting_from k s (Polls index) reply from = poll_from k (attempt_moved k s reply) index _ from
  sitting_from k s (StoresOwing index) reply from = polls_from k s index from
  sitting_from k s (Turns its) reply from = turn_from (own_turn_moved k s reply) its _ from
  sitting_from k s StoresCut reply from = from
  sitting_from k s Leaves reply from = leave_from (record s { leaving = leave_next s.leaving }) _ from
  sitting_from k s LoadsDurable reply from = from

  next_from : (k : Seat) (s : SessionState) (reply : ℕ) → IsFrom s → IsFrom (session_next k s reply)
  next_from k s reply from = sitting_from k (record s { asks = asks_after s.asks (is_word_ask (session_ask k s)); effect = None }) s.step reply from

  -- ---- with the action of a slot
  given_from : (k : Seat) (s : SessionState) (step : Sitting) (action : Action) → IsFrom s → IsFrom (sitting_given k s step action)
  unfolding sitting_given
  given_from k s (Turns its) action from = turn_from (record s { own_turn = own_turn_given s.own_turn action }) its _ from
  given_from k s step action from = from

  gets_from : (k : Seat) (s : SessionState) (found : Option Action) → IsFrom s → IsFrom (session_gets k s found)
  gets_from k s None from = from
  gets_from k s (Some action) from = given_from k s s.step action from

  settled_from : (k : Seat) (n : Near SessionState) (ask : Ask Told) → IsFrom n.machine → IsFrom (session_settled k n ask).machine
  unfolding session_settled
  settled_from k n (Put slot action) from = next_from k n.machine 0 from
  settled_from k n (Take slot) from = gets_from k n.machine (action_at n.actions slot) from
  settled_from k n ask from = from

  asks_from : (k : Seat) (n : Near SessionState) (ask : Ask Told) → IsFrom n.machine → IsFrom (session_asks k n ask).machine
  unfolding session_asks
  asks_from k n (Done told) from = from
  asks_from k n (Put slot action) from = settled_from k n (Put slot action) from
  asks_from k n (Take slot) from = settled_from k n (Take slot) from
  asks_from k n ask from = settled_from k (session_replied k n ask) (session_ask k (session_replied k n ask).machine) (next_from k n.machine (reply_to n.words ask) from)

  -- ---- by each event
  pub comes_from : (w : World) (session : ℕ) (s after : SessionState) → SessionComes w session s after → IsFrom s → IsFrom after
  comes_from w session s after (Stays is) from = subst IsFrom (sym is) from
  comes_from w session s after (Begins its idle is) from = subst IsFrom (sym is) (begun_from (seat_at w.now session) (record s { asks = 0; effect = None; wants_turn = false }) its from)
  comes_from w session s after (Steps is) from = subst IsFrom (sym is) (asks_from (seat_at w.now session) (near w.now s) (session_ask (seat_at w.now session) s) from)
