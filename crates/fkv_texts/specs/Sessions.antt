-- What a session's line writes.
use Rattle.std.specs.Prelude.{ℕ, List, [], ◌++◌, codes, Option, Some, None}
use Rattle.std.specs.Fmt.{decimal}
use Rattle.fkv_base.specs.declared.numbers.Key.{Key}
use Rattle.fkv_map.specs.declared.operations.Call.{Call}
use Rattle.fkv_map.specs.declared.operations.Call.TheVariants.{Op}
use Rattle.fkv_map.specs.declared.operations.Reply.TheVariants as reply
use Rattle.fkv_map.specs.Keys.{key_of}
use Rattle.fkv_session.specs.declared.answers.Answer.{Answer}
use Rattle.fkv_session.specs.declared.answers.Answer.TheVariants.{Done, Pending, Found, Absent, PendingRead, Refreshed, Woken, Polled, Slept, Durable, Refused}
use Rattle.fkv_session.specs.declared.answers.Finished.{Finished}
use Rattle.fkv_texts.specs.declared.polls.WaitingRead.{WaitingRead}
use Rattle.fkv_texts.specs.Lines.{session_line, key_word, reply_text, phase_text}
use Rattle.fkv_texts.specs.Polls.{finished_lines}
use Rattle.fkv_texts.specs.Refusals.{refusal_text}

-- the key that a call asks for; a call that is no operation has none
abbrev pub key_of_call : Call → Option Key
key_of_call (Op op) = Some (key_of op)
key_of_call other = None

-- `poll left 2`: how many requests wait behind a poll
abbrev pub left_text : ℕ → List ℕ
left_text left = codes "poll left " ++ decimal left

-- what is said of the call itself
abbrev pub answer_text : Call → Answer → List ℕ
answer_text call (Done serial reply) = codes "#" ++ decimal serial.0 ++ reply_text reply
answer_text call (Pending serial reason) = codes "#" ++ decimal serial.0 ++ codes " pending"
answer_text call (Found value) = codes "get" ++ key_word (key_of_call call) ++ reply_text (reply.Found value)
answer_text call Absent = codes "get" ++ key_word (key_of_call call) ++ reply_text reply.Absent
answer_text call (PendingRead ticket) = codes "get" ++ key_word (key_of_call call) ++ codes " pending @" ++ decimal ticket.0
answer_text call (Refreshed phase version) = codes "refresh" ++ phase_text phase version
answer_text call (Woken phase version) = codes "wake" ++ phase_text phase version
answer_text call (Polled finished left) = left_text left
answer_text call Slept = codes "sleep"
answer_text call (Durable serial) = codes "durable " ++ decimal serial.0
answer_text call (Refused fault) = refusal_text fault

-- the requests that a call has finished: a poll alone finishes some
abbrev pub finished_by : Answer → List Finished
finished_by (Polled finished left) = finished.items
finished_by other = []

-- the lines of what the call has finished, and behind them what is said of the call itself
abbrev pub session_text : ℕ → Call → List WaitingRead → Answer → List ℕ
session_text session call waiting answer =
    finished_lines session waiting (finished_by answer) ++ session_line session (answer_text call answer)
