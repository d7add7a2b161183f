-- The trace of a life in the words of the log's: each call and each answer as the lines that it is.
use Rattle.std.specs.Prelude.{ℕ, ◌+◌, ◌==◌, ◌&&◌, if◌then◌else◌, Bool, false, length, List, [], ◌∷◌, ◌++◌, Option, Some, None}
use Rattle.fkv_base.specs.declared.numbers.Value.{Value}
use Rattle.fkv_map.specs.declared.operations.Call.{Call}
use Rattle.fkv_map.specs.declared.operations.Call.TheVariants as call
use Rattle.fkv_map.specs.declared.operations.Op.{Op}
use Rattle.fkv_map.specs.declared.operations.Op.TheVariants.{Read}
use Rattle.fkv_map.specs.declared.operations.Reply.{Reply}
use Rattle.fkv_map.specs.declared.operations.Reply.TheVariants as reply
use Rattle.law_log.specs.Trace.{TraceLine, CallsUpdate, RefusesUpdate, GivesResult, CallsRead, AnswersRead}
use Rattle.law_world.specs.Below.fkv_session.Finished.{Finished}
use Rattle.law_world.specs.Below.fkv_session.Finished.TheVariants as finished
use Rattle.law_world.specs.Below.fkv_session.Told.{Told}
use Rattle.law_world.specs.Below.fkv_session.Told.TheVariants as told
use Rattle.law_world.specs.Below.fkv_session.Accounts.{serials_given}
use Rattle.law_world.specs.Below.fkv_world.Opened.{answers_of}
use Rattle.law_world.specs.Below.fkv_world.Past.{Traced, TraceEvent, Called, Answered}

-- A call of a session, and its number: how long the trace was as it was made. No other call has that.
pub record CallMade : Type 0 where
  pub call : Call
  pub number : ℕ

-- the last call that a session has made
abbrev pub call_made : ℕ → ℕ → TraceEvent → Option CallMade → Option CallMade
call_made session so_far (Called number its) before = if number == session then Some (record { call = its; number = so_far }) else before
call_made session so_far event before = before

abbrev pub last_call : ℕ → List Traced → Option CallMade
last_call session [] = None
last_call session (it ∷ before) = call_made session (length before) it.its (last_call session before)

-- the number of the read that a session has in hand
abbrev pub number_of_call : Option CallMade → ℕ
number_of_call None = 0
number_of_call (Some made) = made.number

abbrev pub read_in_hand : ℕ → List Traced → ℕ
read_in_hand session trace = number_of_call (last_call session trace)

-- and of the read that waits for a ticket: it was in hand as the ticket was given
abbrev pub is_ticket : ℕ → Told → Bool
is_ticket ticket (told.PendingRead given) = given.0 == ticket
is_ticket ticket its = false

abbrev pub gives_ticket : ℕ → ℕ → TraceEvent → Bool
gives_ticket session ticket (Answered number its) = number == session && is_ticket ticket its.its
gives_ticket session ticket event = false

abbrev pub read_waiting : ℕ → ℕ → List Traced → ℕ
read_waiting session ticket [] = 0
read_waiting session ticket (it ∷ before) = if gives_ticket session ticket it.its then read_in_hand session before else read_waiting session ticket before

-- The serial that the next update of a session takes: the one behind the last that it was told, or that it began with.
abbrev pub newest_serial : ℕ → List ℕ → ℕ
newest_serial first [] = first
newest_serial first (serial ∷ before) = serial

abbrev pub next_serial : (ℕ → ℕ) → ℕ → List Traced → ℕ
next_serial first session trace = newest_serial (first session) (serials_given (answers_of session trace)) + 1

-- ---- a call
abbrev pub op_line : ℕ → ℕ → ℕ → Op → TraceLine
op_line session number serial (Read key) = CallsRead number key.0
op_line session number serial op = CallsUpdate session serial op

abbrev pub call_lines : (ℕ → ℕ) → List Traced → ℕ → Call → List TraceLine
call_lines first before session (call.Op op) = op_line session (length before) (next_serial first session before) op ∷ []
call_lines first before session its = []

-- ---- an answer
-- the value that a read was told
abbrev pub read_reply : Option Value → Reply
read_reply None = reply.Absent
read_reply (Some value) = reply.Found value

-- what a poll has finished, the last one first
abbrev pub finished_line : ℕ → List Traced → Finished → TraceLine
finished_line session before (finished.Update serial its) = GivesResult session serial.0 its
finished_line session before (finished.Read ticket value) = AnswersRead (read_waiting session ticket.0 before) (read_reply value)

abbrev pub finished_lines : ℕ → List Traced → List Finished → List TraceLine
finished_lines session before [] = []
finished_lines session before (it ∷ rest) = finished_lines session before rest ++ finished_line session before it ∷ []

-- an update that is refused leaves its serial free
abbrev pub refused_op : ℕ → ℕ → Op → List TraceLine
refused_op session serial (Read key) = []
refused_op session serial op = RefusesUpdate session serial ∷ []

abbrev pub refused_call : ℕ → ℕ → Call → List TraceLine
refused_call session serial (call.Op op) = refused_op session serial op
refused_call session serial its = []

abbrev pub refused_lines : ℕ → ℕ → Option CallMade → List TraceLine
refused_lines session serial None = []
refused_lines session serial (Some made) = refused_call session serial made.call

abbrev pub answer_lines : (ℕ → ℕ) → List Traced → ℕ → Told → List Finished → List TraceLine
answer_lines first before session (told.Done serial its) list = GivesResult session serial.0 its ∷ []
answer_lines first before session (told.Found value) list = AnswersRead (read_in_hand session before) (reply.Found value) ∷ []
answer_lines first before session told.Absent list = AnswersRead (read_in_hand session before) reply.Absent ∷ []
answer_lines first before session (told.Polled left) list = finished_lines session before list
answer_lines first before session (told.Refused why) list = refused_lines session (next_serial first session before) (last_call session before)
answer_lines first before session its list = []

-- ---- the whole trace
-- behind this much of it; commits and turns are no lines
abbrev pub event_lines : (ℕ → ℕ) → List Traced → TraceEvent → List TraceLine
event_lines first before (Called session its) = call_lines first before session its
event_lines first before (Answered session its) = answer_lines first before session its.its its.finished
event_lines first before event = []

-- of sessions that began with these serials
unfoldable pub lines_of : (ℕ → ℕ) → List Traced → List TraceLine
lines_of first [] = []
lines_of first (it ∷ before) = event_lines first before it.its ++ lines_of first before

-- and of what is added to a trace
unfoldable pub lines_added : (ℕ → ℕ) → List Traced → List Traced → List TraceLine
lines_added first before [] = []
lines_added first before (it ∷ earlier) = event_lines first (earlier ++ before) it.its ++ lines_added first before earlier
