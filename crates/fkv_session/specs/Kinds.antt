-- Which answers are of a call's kind, and what a call is answered that asks nothing.
use Rattle.std.specs.Prelude.{◌≡◌, ⊤, true, false, if◌then◌else◌, Option, Some, None, List, [], ◌∷◌}
use Rattle.fkv_base.specs.declared.faults.Fault.TheVariants as fault
use Rattle.fkv_map.specs.declared.operations.Call.{Call}
use Rattle.fkv_map.specs.declared.operations.Call.TheVariants as call
use Rattle.fkv_map.specs.declared.operations.Op.{Op}
use Rattle.fkv_ops.specs.Requests.{is_read}
use Rattle.fkv_session.specs.declared.answers.Told.{Told}
use Rattle.fkv_session.specs.declared.answers.Told.TheVariants as told
use Rattle.fkv_session.specs.Causes.{IsFirstCause}
use Rattle.fkv_session.specs.Sessions.{SessionState, Seat, is_busy}
use Rattle.fkv_session.specs.SessionRun.{SessionEvent, Begins, session_run}

-- the call that began last; none begins where one is in hand
abbrev pub call_after : SessionState → SessionEvent → Option Call → Option Call
call_after s (Begins its) before = if is_busy s.step then before else Some its
call_after s event before = before

unfoldable pub last_call : Seat → SessionState → List SessionEvent → Option Call
last_call k opening [] = None
last_call k opening (event ∷ before) = call_after (session_run k opening before) event (last_call k opening before)

-- an update is done, or waits; a read has an answer, or waits; or the index or the log is full
abbrev pub IsOfOperation : Op → Told → Type 0
IsOfOperation op (told.Done serial reply) = is_read op ≡ false
IsOfOperation op (told.Pending serial why) = is_read op ≡ false
IsOfOperation op (told.Found value) = is_read op ≡ true
IsOfOperation op told.Absent = is_read op ≡ true
IsOfOperation op (told.PendingRead ticket) = is_read op ≡ true
IsOfOperation op (told.Refused fault.IndexFull) = ⊤
IsOfOperation op (told.Refused fault.LogFull) = ⊤
IsOfOperation op its = ⊥

-- What each call is answered behind its asks. There only an operation may be refused.
abbrev pub IsOfKind : Call → Told → Type 0
IsOfKind (call.Op op) its = IsOfOperation op its
IsOfKind call.Refresh (told.Refreshed phase version) = ⊤
IsOfKind call.Poll (told.Polled left) = ⊤
IsOfKind call.Sleep told.Slept = ⊤
IsOfKind call.Wake (told.Woken phase version) = ⊤
IsOfKind call.Durable (told.Durable serial) = ⊤
IsOfKind its it = ⊥

-- a call was begun, and this is of its kind
abbrev pub IsAnswerTo : Option Call → Told → Type 0
IsAnswerTo None it = ⊥
IsAnswerTo (Some its) it = IsOfKind its it

-- What a call is answered that asks nothing: by which fault it is refused; or of a poll for which nothing waits, that none is left.
abbrev pub IsAnswerAtOnce : SessionState → Call → Told → Type 0
IsAnswerAtOnce s its (told.Refused why) = IsFirstCause s its why
IsAnswerAtOnce s call.Poll (told.Polled left) = (s.requests ≡ []) × (left ≡ 0)
IsAnswerAtOnce s its it = ⊥
