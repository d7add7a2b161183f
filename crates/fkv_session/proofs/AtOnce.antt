-- A call that asks nothing is refused, or is a poll for which nothing waits.
use Rattle.std.proofs.Common.{◌≡◌, List, [], ◌∷◌, length, refl, ap, sym, subst, ◌∙◌, Bool, true, false}
use Rattle.std.specs.Prelude.{⊤, Option, Some, None, if◌then◌else◌, not, ◌==◌, slice_get}
use Rattle.fkv_base.specs.declared.faults.Fault.{Fault}
use Rattle.fkv_base.specs.declared.faults.Fault.TheVariants as fault
use Rattle.fkv_map.specs.declared.operations.Call.{Call}
use Rattle.fkv_map.specs.declared.operations.Call.TheVariants as call
use Rattle.fkv_map.specs.declared.operations.Op.{Op}
use Rattle.fkv_pending.specs.declared.pending_requests.PendingRequest.{PendingRequest}
use Rattle.fkv_session.specs.declared.answers.Told.{Told}
use Rattle.fkv_session.specs.declared.answers.Told.TheVariants as told
use Rattle.fkv_session.specs.declared.sessions.Sitting.TheVariants.{Idle}
use Rattle.fkv_session.specs.Kinds.{IsAnswerAtOnce}
use Rattle.fkv_session.specs.Sessions.{SessionState, Seat, refuses, attempts, polls_request, polls_at, refusal_of, op_begun, refresh_call, poll_begun, poll_call, sleep_call, wake_call, call_begun, session_begun}
use Rattle.fkv_session.proofs.FirstCauses.{begun_caused}

-- it is refused, or such a poll
abbrev IsLeft : SessionState → Call → Told → Type 0
IsLeft s its (told.Refused why) = ⊤
IsLeft s call.Poll (told.Polled left) = (s.requests ≡ []) × (left ≡ 0)
IsLeft s its it = ⊥

-- where a call leads
abbrev LeadsSo : SessionState → Call → SessionState → Type 0
LeadsSo s its after = (it : Told) → after.step ≡ Idle it → IsLeft s its it

either_so : (b : Bool) (s : SessionState) (its : Call) (one other : SessionState) → LeadsSo s its one → LeadsSo s its other → LeadsSo s its (if b then one else other)
either_so true s its one other so so_other = so
either_so false s its one other so so_other = so_other

refuses_so : (s t : SessionState) (its : Call) (why : Fault) → LeadsSo s its (refuses t why)
refuses_so s t its why it e = let same : told.Refused why ≡ it = cc in subst (λ (x : Told). IsLeft s its x) same tt

op_so : (k : Seat) (s t : SessionState) (op : Op) (found : Option Fault) → LeadsSo s (call.Op op) (op_begun k t op found)
unfolding op_begun attempts
op_so k s t op (Some why) = refuses_so s t (call.Op op) why
op_so k s t op None = λ it e. cc

none_wait : (requests : List PendingRequest) → slice_get requests 0 ≡ None → requests ≡ []
none_wait [] e = refl
none_wait (first ∷ others) e = cc

without_turn : (b : Bool) (turns rests : SessionState) (it : Told) → b ≡ false → (if b then turns else rests).step ≡ Idle it → rests.step ≡ Idle it
without_turn true turns rests it e ends = cc
without_turn false turns rests it e ends = ends

found_so : (k : Seat) (s t : SessionState) (found : Option PendingRequest) → t.wants_turn ≡ false → t.requests ≡ s.requests → slice_get t.requests 0 ≡ found → LeadsSo s call.Poll (polls_request k t 0 found)
found_so k s t None calm same e = λ it ends.
    let none : t.requests ≡ [] = none_wait t.requests e in
    let rests : Idle (told.Polled (length t.requests)) ≡ Idle it = without_turn t.wants_turn _ _ it calm ends in
    let told_so : told.Polled (length t.requests) ≡ it = cc in
    subst (λ (x : Told). IsLeft s call.Poll x) told_so (sym same ∙ none, ap (λ (x : List PendingRequest). length x) none)
found_so k s t (Some pending) calm same e = λ it ends. cc

polls_so : (k : Seat) (s t : SessionState) → t.wants_turn ≡ false → t.requests ≡ s.requests → LeadsSo s call.Poll (polls_at k t 0)
unfolding polls_at
polls_so k s t calm same = found_so k s t (slice_get t.requests 0) calm same refl

call_so : (k : Seat) (s t : SessionState) (its : Call) → t.wants_turn ≡ false → t.requests ≡ s.requests → LeadsSo s its (call_begun k t its)
unfolding refresh_call poll_call sleep_call wake_call
call_so k s t (call.Op op) calm same = op_so k s t op (refusal_of t op)
call_so k s t call.Refresh calm same = either_so t.is_awake s call.Refresh _ (refuses t fault.Asleep) (λ it e. cc) (refuses_so s t call.Refresh fault.Asleep)
call_so k s t call.Poll calm same =
    let its : SessionState = record t { finished = [] } in
    either_so t.is_awake s call.Poll (poll_begun k its) (refuses t fault.Asleep) (either_so t.is_orphaned s call.Poll _ (polls_at k its 0) (λ it e. cc) (polls_so k s its calm same)) (refuses_so s t call.Poll fault.Asleep)
call_so k s t call.Sleep calm same =
    either_so (not t.is_awake) s call.Sleep (refuses t fault.Asleep) _ (refuses_so s t call.Sleep fault.Asleep)
    (either_so (length t.requests == 0) s call.Sleep _ (refuses t fault.PendingLeft) (λ it e. cc) (refuses_so s t call.Sleep fault.PendingLeft))
call_so k s t call.Wake calm same = either_so t.is_awake s call.Wake (refuses t fault.Awake) _ (refuses_so s t call.Wake fault.Awake) (λ it e. cc)
call_so k s t call.Durable calm same = λ it e. cc

left_so : (s : SessionState) (its : Call) (it : Told) → ((why : Fault) → it ≡ told.Refused why → IsAnswerAtOnce s its (told.Refused why)) → IsLeft s its it → IsAnswerAtOnce s its it
left_so s its (told.Refused why) caused left = caused why refl
left_so s call.Poll (told.Polled count) caused left = left
left_so s its it caused left = absurd left

pub begun_at_once : (k : Seat) (s : SessionState) (its : Call) (it : Told) → (session_begun k s its).step ≡ Idle it → IsAnswerAtOnce s its it
begun_at_once k s its it e =
    left_so s its it (λ why same. begun_caused k s its why (e ∙ ap (λ (x : Told). Idle x) same)) (call_so k s (record s { asks = 0; effect = None; wants_turn = false }) its refl refl it e)
