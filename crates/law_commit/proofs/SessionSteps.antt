-- What holds of a session wherever a reply or a call leads it, if it holds where an answer, a turn and a machine begin.
use Rattle.std.proofs.Common.{◌≡◌, ℕ, ◌+◌, sym, subst, [], length, Bool, true, false}
use Rattle.std.specs.Prelude.{⊤, if◌then◌else◌, ◌==◌, ◌||◌, not, Option, Some, None, slice_get, slice_set}
use Rattle.fkv_base.specs.declared.faults.Fault.{Fault}
use Rattle.fkv_base.specs.declared.faults.Fault.TheVariants as fault
use Rattle.fkv_map.specs.declared.operations.Call.{Call}
use Rattle.fkv_map.specs.declared.operations.Call.TheVariants as call
use Rattle.fkv_map.specs.declared.operations.Op.{Op}
use Rattle.fkv_plane.specs.declared.asks.Ask.{Ask}
use Rattle.fkv_plane.specs.declared.asks.Ask.TheVariants.{Done}
use Rattle.law_refine.specs.Below.fkv_ops.Reason.{Reason}
use Rattle.law_refine.specs.Below.fkv_ops.Reason.TheVariants as reason
use Rattle.law_refine.specs.Below.fkv_ops.TryAnswer.{TryAnswer}
use Rattle.law_refine.specs.Below.fkv_ops.TryAnswer.TheVariants as tried
use Rattle.law_refine.specs.Below.fkv_ops.Requests.{is_read}
use Rattle.law_refine.specs.Below.fkv_pending.MailAnswer.{MailAnswer}
use Rattle.law_refine.specs.Below.fkv_pending.MailAnswer.TheVariants.{Cleared}
use Rattle.law_refine.specs.Below.fkv_pending.MailTask.TheVariants.{Clear}
use Rattle.law_refine.specs.Below.fkv_pending.TheMailing.TheVariants.{LoadsState}
use Rattle.law_refine.specs.Below.fkv_pending.PendingRequest.{PendingRequest}
use Rattle.law_refine.specs.Below.fkv_session.Told.{Told}
use Rattle.law_refine.specs.Below.fkv_session.Told.TheVariants as told
use Rattle.law_refine.specs.Below.fkv_session.CatchCause.{CatchCause}
use Rattle.law_refine.specs.Below.fkv_session.CatchCause.TheVariants.{Refreshes, Wakes, Shifts}
use Rattle.law_refine.specs.Below.fkv_session.Sitting.{Sitting}
use Rattle.law_refine.specs.Below.fkv_session.Sitting.TheVariants.{Idle, Attempts, CatchesUp, ClearsMail, Polls, StoresOwing, Turns, StoresCut, Leaves, LoadsDurable}
use Rattle.law_refine.specs.Below.fkv_session.CatchingUp.{refresh_begun, wake_begun}
use Rattle.law_refine.specs.Below.fkv_session.OwnTurns.{own_turn_begun}
use Rattle.law_refine.specs.Below.fkv_session.Sessions.{SessionState, Seat, answers, refuses, answers_after_turn, attempts, polls_request, polls_at, refusal_of, op_begun, refresh_call, poll_begun, poll_call, sleep_call, wake_call, call_begun, ticket_after, attempt_left, poll_left, serial_taken, update_done, is_no_room, lacks_room, with_request, accepts, shifts, attempted, attempt_ledto, caught_up, catch_ledto, clear_ledto, is_finished, is_owed, request_finished, finishes_request, keeps_request, poll_ledto, turn_ledto, leave_ledto, session_begun}

-- what isn't told of durable words
abbrev pub IsOther : Told → Type 0
IsOther (told.Durable serial) = ⊥
IsOther its = ⊤

-- it holds where a reply ends a machine and another begins
pub record HoldsBegun (k : Seat) (At : SessionState → Sitting → Type 0) : Type 0 where
  pub answered : (s : SessionState) (its : Told) → IsOther its → At (record s { step = Idle its }) (Idle its)
  pub turns : (s : SessionState) (its : Told) → IsOther its → At (record s { own_turn = own_turn_begun s.own_turn; step = Turns its }) (Turns its)
  pub tries : (s : SessionState) (has_shifted : Bool) → At (attempts k s has_shifted) (attempts k s has_shifted).step
  pub polls : (s : SessionState) (index : ℕ) (pending : PendingRequest) → At (polls_request k s index (Some pending)) (Polls index)
  pub shifted : (s : SessionState) → At (shifts s false) (shifts s false).step
  pub owes : (s : SessionState) (index : ℕ) → At (record s { step = StoresOwing index }) (StoresOwing index)

-- and where a call begins one
pub record HoldsCalled (At : SessionState → Sitting → Type 0) : Type 0 where
  pub refreshes : (s : SessionState) → At (record s { catching = refresh_begun s.catching s.seen s.serial; step = CatchesUp Refreshes }) (CatchesUp Refreshes)
  pub wakes : (s : SessionState) → At (record s { catching = wake_begun s.catching s.seen s.serial; step = CatchesUp Wakes }) (CatchesUp Wakes)
  pub clears : (s : SessionState) → At (record s { mailing = LoadsState Clear; step = ClearsMail }) ClearsMail
  pub cuts : (s : SessionState) → At (record s { step = StoresCut }) StoresCut
  pub loads : (s : SessionState) → At (record s { step = LoadsDurable }) LoadsDurable

module _ (k : Seat) (At : SessionState → Sitting → Type 0) (begun : HoldsBegun k At) where
  abbrev Holds : SessionState → Type 0
  Holds s = At s s.step

  either_holds : (c : Bool) (a b : SessionState) → Holds a → Holds b → Holds (if c then a else b)
  either_holds true a b one other = one
  either_holds false a b one other = other

  stays : (s : SessionState) (step : Sitting) → s.step ≡ step → At s step → Holds s
  stays s step at held = subst (At s) (sym at) held

  -- a call is answered, or polls go on
  turn_holds : (s : SessionState) (its : Told) → IsOther its → Holds (answers_after_turn s its)
  turn_holds s its other = either_holds s.wants_turn (record s { own_turn = own_turn_begun s.own_turn; step = Turns its }) (answers s its) (begun.turns s its other) (begun.answered s its other)

  found_holds : (s : SessionState) (index : ℕ) (found : Option PendingRequest) → Holds (polls_request k s index found)
  found_holds s index None = turn_holds s (told.Polled (length s.requests)) tt
  found_holds s index (Some pending) = begun.polls s index pending

  pub polls_hold : (s : SessionState) (index : ℕ) → Holds (polls_at k s index)
  unfolding polls_at
  polls_hold s index = found_holds s index (slice_get s.requests index)

  -- an attempt at a call
  accepts_hold : (s : SessionState) (why : Reason) → Holds (accepts s why)
  unfolding accepts
  accepts_hold s why =
      let read : SessionState = with_request (record s { ticket = ticket_after s.ticket }) in
      let update : SessionState = with_request (serial_taken (record s { wants_turn = is_no_room why })) in
      let its_ticket : Told = told.PendingRead (record { 0 = ticket_after s.ticket }) in
      let its_serial : Told = told.Pending (record { 0 = s.serial + 1 }) why in
      either_holds (is_read s.op) (answers read its_ticket) (answers_after_turn update its_serial) (begun.answered read its_ticket tt) (turn_holds update its_serial tt)

  shifts_hold : (s : SessionState) (has_shifted : Bool) → Holds (shifts s has_shifted)
  unfolding shifts
  shifts_hold s false = begun.shifted s
  shifts_hold s true = accepts_hold s reason.Contended

  attempted_holds : (s : SessionState) (has_shifted : Bool) (its : TryAnswer) → Holds (attempted s has_shifted its)
  attempted_holds s has_shifted (tried.Done reply) =
      either_holds (is_read s.op) (answers s told.Absent) (update_done s reply) (begun.answered s told.Absent tt) (begun.answered (serial_taken s) (told.Done (record { 0 = s.serial + 1 }) reply) tt)
  attempted_holds s has_shifted (tried.Found value) = begun.answered s (told.Found value) tt
  attempted_holds s has_shifted tried.Absent = begun.answered s told.Absent tt
  attempted_holds s has_shifted (tried.Wait why) = accepts_hold s why
  attempted_holds s has_shifted (tried.AwaitsDisk sought) = accepts_hold s reason.Disk
  attempted_holds s has_shifted tried.Shift = shifts_hold s has_shifted
  attempted_holds s has_shifted tried.IndexFull = begun.answered s (told.Refused fault.IndexFull) tt
  attempted_holds s has_shifted tried.LogFull = begun.answered s (told.Refused fault.LogFull) tt

  pub attempt_holds : (s : SessionState) (has_shifted : Bool) (ask : Ask TryAnswer) → s.step ≡ Attempts has_shifted → At s (Attempts has_shifted) → Holds (attempt_ledto s has_shifted ask)
  unfolding attempt_ledto
  attempt_holds s has_shifted (Done its) at held = attempted_holds (attempt_left s) has_shifted its
  attempt_holds s has_shifted ask at held = stays s (Attempts has_shifted) at held

  -- it catches up
  caught_up_holds : (s : SessionState) (cause : CatchCause) → Holds (caught_up k s cause)
  caught_up_holds s Refreshes = begun.answered s (told.Refreshed s.seen.phase s.seen.version) tt
  caught_up_holds s Wakes = begun.answered (record s { is_awake = true }) (told.Woken s.seen.phase s.seen.version) tt
  caught_up_holds s Shifts = begun.tries s true

  pub catch_holds : (s : SessionState) (cause : CatchCause) (ask : Ask (Unit {0})) → s.step ≡ CatchesUp cause → At s (CatchesUp cause) → Holds (catch_ledto k s cause ask)
  unfolding catch_ledto
  catch_holds s cause (Done through) at held = caught_up_holds (record s { seen = s.catching.seen }) cause
  catch_holds s cause ask at held = stays s (CatchesUp cause) at held

  -- polls, turns and leaving
  pub clear_holds : (s : SessionState) (ask : Ask MailAnswer) → s.step ≡ ClearsMail → At s ClearsMail → Holds (clear_ledto k s ask)
  unfolding clear_ledto
  clear_holds s (Done Cleared) at held = polls_hold (record s { is_orphaned = false }) 0
  clear_holds s (Done its) at held = polls_hold s 0
  clear_holds s ask at held = stays s ClearsMail at held

  finishes_holds : (s : SessionState) (index : ℕ) (its : TryAnswer) → Holds (finishes_request k s index its)
  unfolding finishes_request
  finishes_holds s index its = either_holds (is_owed s) (request_finished s index its) (polls_at k (request_finished s index its) index) (begun.owes (request_finished s index its) index) (polls_hold (request_finished s index its) index)

  keeps_holds : (s : SessionState) (index : ℕ) (its : TryAnswer) → Holds (keeps_request k s index its)
  unfolding keeps_request
  keeps_holds s index its = polls_hold (record s { requests = slice_set s.requests index s.attempt.pending; wants_turn = s.wants_turn || lacks_room its }) (index + 1)

  pub poll_holds : (s : SessionState) (index : ℕ) (ask : Ask TryAnswer) → s.step ≡ Polls index → At s (Polls index) → Holds (poll_ledto k s index ask)
  unfolding poll_ledto
  poll_holds s index (Done its) at held = either_holds (is_finished its) (finishes_request k (poll_left s) index its) (keeps_request k (poll_left s) index its) (finishes_holds (poll_left s) index its) (keeps_holds (poll_left s) index its)
  poll_holds s index ask at held = stays s (Polls index) at held

  pub turned_holds : (s : SessionState) (its : Told) (ask : Ask (Unit {0})) → s.step ≡ Turns its → IsOther its → At s (Turns its) → Holds (turn_ledto s its ask)
  unfolding turn_ledto
  turned_holds s its (Done through) at other held = begun.answered s its other
  turned_holds s its ask at other held = stays s (Turns its) at held

  pub leave_holds : (s : SessionState) (ask : Ask (Unit {0})) → s.step ≡ Leaves → At s Leaves → Holds (leave_ledto s ask)
  unfolding leave_ledto
  leave_holds s (Done its) at held = begun.answered (record s { is_awake = false }) told.Slept tt
  leave_holds s ask at held = stays s Leaves at held

  -- a call
  pub op_holds : (s : SessionState) (op : Op) (why : Option Fault) → Holds (op_begun k s op why)
  unfolding op_begun
  op_holds s op (Some why) = begun.answered s (told.Refused why) tt
  op_holds s op None = begun.tries (record s { op = op }) false

  refused_holds : (s : SessionState) (why : Fault) → Holds (refuses s why)
  refused_holds s why = begun.answered s (told.Refused why) tt

  module _ (called : HoldsCalled At) where
    poll_begun_holds : (s : SessionState) → Holds (poll_begun k s)
    poll_begun_holds s = either_holds s.is_orphaned (record s { mailing = LoadsState Clear; step = ClearsMail }) (polls_at k s 0) (called.clears s) (polls_hold s 0)

    call_holds : (s : SessionState) (its : Call) → Holds (call_begun k s its)
    unfolding refresh_call poll_call sleep_call wake_call
    call_holds s (call.Op op) = op_holds s op (refusal_of s op)
    call_holds s call.Refresh = either_holds s.is_awake (record s { catching = refresh_begun s.catching s.seen s.serial; step = CatchesUp Refreshes }) (refuses s fault.Asleep) (called.refreshes s) (refused_holds s fault.Asleep)
    call_holds s call.Poll = either_holds s.is_awake (poll_begun k (record s { finished = [] })) (refuses s fault.Asleep) (poll_begun_holds (record s { finished = [] })) (refused_holds s fault.Asleep)
    call_holds s call.Sleep =
        either_holds (not s.is_awake) (refuses s fault.Asleep) (if length s.requests == 0 then record s { step = StoresCut } else refuses s fault.PendingLeft) (refused_holds s fault.Asleep)
        (either_holds (length s.requests == 0) (record s { step = StoresCut }) (refuses s fault.PendingLeft) (called.cuts s) (refused_holds s fault.PendingLeft))
    call_holds s call.Wake = either_holds s.is_awake (refuses s fault.Awake) (record s { catching = wake_begun s.catching s.seen s.serial; step = CatchesUp Wakes }) (refused_holds s fault.Awake) (called.wakes s)
    call_holds s call.Durable = called.loads s

    pub begun_holds : (s : SessionState) (its : Call) → Holds (session_begun k s its)
    begun_holds s its = call_holds (record s { asks = 0; effect = None; wants_turn = false }) its
