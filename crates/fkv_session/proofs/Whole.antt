-- A call that is refused before its first ask leaves all as it was.
use Rattle.std.proofs.Common.{◌≡◌, ℕ, ap, Bool, true, false, [], length}
use Rattle.std.specs.Prelude.{Option, Some, None, if◌then◌else◌, not, ◌==◌, slice_get}
use Rattle.fkv_base.specs.declared.faults.Fault.{Fault}
use Rattle.fkv_base.specs.declared.faults.Fault.TheVariants as fault
use Rattle.fkv_map.specs.declared.operations.Call.{Call}
use Rattle.fkv_map.specs.declared.operations.Call.TheVariants as call
use Rattle.fkv_map.specs.declared.operations.Op.{Op}
use Rattle.fkv_pending.specs.declared.pending_requests.PendingRequest.{PendingRequest}
use Rattle.fkv_session.specs.declared.answers.Told.TheVariants as told
use Rattle.fkv_session.specs.declared.sessions.Sitting.TheVariants.{Idle}
use Rattle.fkv_session.specs.Sessions.{SessionState, Seat, answers, refuses, attempts, polls_request, polls_at, refusal_of, op_begun, refresh_call, poll_begun, poll_call, sleep_call, wake_call, call_begun}
use Rattle.fkv_session.specs.Refused.{IsRefusedWhole}

abbrev pub IsWhole : SessionState → Fault → SessionState → Type 0
IsWhole s why after = after.step ≡ Idle (told.Refused why) → after ≡ refuses s why

either_whole : (c : Bool) (s : SessionState) (why : Fault) (a b : SessionState) → IsWhole s why a → IsWhole s why b → IsWhole s why (if c then a else b)
either_whole true s why a b one other = one
either_whole false s why a b one other = other

refuses_whole : (s : SessionState) (why its : Fault) → IsWhole s why (refuses s its)
refuses_whole s why its e = let same : its ≡ why = cc in ap (refuses s) same

attempts_whole : (k : Seat) (s t : SessionState) (c : Bool) (why : Fault) → IsWhole s why (attempts k t c)
unfolding attempts
attempts_whole k s t c why e = cc

op_whole : (k : Seat) (s : SessionState) (op : Op) (its : Option Fault) (why : Fault) → IsWhole s why (op_begun k s op its)
unfolding op_begun
op_whole k s op (Some its) why = refuses_whole s why its
op_whole k s op None why = attempts_whole k s (record s { op = op }) false why

found_whole : (k : Seat) (s t : SessionState) (i : ℕ) (found : Option PendingRequest) (why : Fault) → IsWhole s why (polls_request k t i found)
found_whole k s t i None why = either_whole t.wants_turn s why _ (answers t (told.Polled (length t.requests))) (λ e. cc) (λ e. cc)
found_whole k s t i (Some pending) why = λ e. cc

polls_whole : (k : Seat) (s t : SessionState) (i : ℕ) (why : Fault) → IsWhole s why (polls_at k t i)
unfolding polls_at
polls_whole k s t i why = found_whole k s t i (slice_get t.requests i) why

call_whole : (k : Seat) (s : SessionState) (its : Call) (why : Fault) → IsWhole s why (call_begun k s its)
unfolding refresh_call poll_call sleep_call wake_call
call_whole k s (call.Op op) why = op_whole k s op (refusal_of s op) why
call_whole k s call.Refresh why = either_whole s.is_awake s why _ (refuses s fault.Asleep) (λ e. cc) (refuses_whole s why fault.Asleep)
call_whole k s call.Poll why =
    either_whole s.is_awake s why (poll_begun k (record s { finished = [] })) (refuses s fault.Asleep)
    (either_whole s.is_orphaned s why _ (polls_at k (record s { finished = [] }) 0) (λ e. cc) (polls_whole k s (record s { finished = [] }) 0 why)) (refuses_whole s why fault.Asleep)
call_whole k s call.Sleep why =
    either_whole (not s.is_awake) s why (refuses s fault.Asleep) _ (refuses_whole s why fault.Asleep)
    (either_whole (length s.requests == 0) s why _ (refuses s fault.PendingLeft) (λ e. cc) (refuses_whole s why fault.PendingLeft))
call_whole k s call.Wake why = either_whole s.is_awake s why (refuses s fault.Awake) _ (refuses_whole s why fault.Awake) (λ e. cc)
call_whole k s call.Durable why = λ e. cc

pub begun_whole : (k : Seat) (s : SessionState) (its : Call) (why : Fault) → IsRefusedWhole k s its why
begun_whole k s its why = call_whole k (record s { asks = 0; effect = None; wants_turn = false }) its why
