-- What C is told of a session's call.
use Rattle.std.specs.Prelude.{◌≡◌, ℕ, ℤ, List, pos}
use Rattle.fkv_map.specs.declared.operations.Call.{Call}
use Rattle.fkv_session.specs.declared.answers.Answer.{Answer}
use Rattle.fkv_session.specs.declared.answers.Answer.TheVariants as answer
pub use Rattle.std.specs.Prelude.{List}
pub use Rattle.fkv_session.specs.declared.answers.Finished.{Finished}
use Rattle.fkv_session.specs.declared.answers.Told.{Told}
use Rattle.fkv_session.specs.declared.answers.Told.TheVariants as told
use Rattle.fkv_handles.specs.Below.fkv_world.Runs.{World}
use Rattle.fkv_handles.specs.declared.sessions.Session.{Session}
use Rattle.fkv_handles.specs.Handles.{Opening, keys_of, sitting_of}
use Rattle.fkv_handles.specs.Laid.{laid_call}
use Rattle.fkv_handles.specs.Sittings.{IsCalled}
use Rattle.fkv_face.specs.declared.told.Numbers.{Numbers}
use Rattle.fkv_face.specs.Numbers.{fault_told}
pub use Rattle.fkv_face.specs.Numbers.{number_in, phase_number, reason_number}

abbrev numbered : ℤ → ℕ → ℕ → ℕ → Numbers
numbered result first second third = record { result = result; first = first; second = second; third = third }

abbrev pub numbers_of : Answer → Numbers
numbers_of (answer.Done serial reply) = numbered (pos 0) serial.0 (number_in reply) 0
numbers_of (answer.Pending serial reason) = numbered (pos 3) serial.0 0 (reason_number reason)
numbers_of (answer.Found value) = numbered (pos 1) value.0 0 0
numbers_of answer.Absent = numbered (pos 2) 0 0 0
numbers_of (answer.PendingRead ticket) = numbered (pos 3) ticket.0 0 0
numbers_of (answer.Refreshed phase version) = numbered (pos 0) (phase_number phase) version.0 0
numbers_of (answer.Woken phase version) = numbered (pos 0) (phase_number phase) version.0 0
numbers_of (answer.Polled finished left) = numbered (pos 0) left 0 0
numbers_of answer.Slept = numbered (pos 0) 0 0 0
numbers_of (answer.Durable serial) = numbered (pos 0) serial.0 0 0
numbers_of (answer.Refused why) = numbered (fault_told why) 0 0 0

-- the answer that says what was told, with what was finished
abbrev pub answer_saying : Told → List Finished → Answer
answer_saying (told.Done serial reply) finished = answer.Done serial reply
answer_saying (told.Pending serial reason) finished = answer.Pending serial reason
answer_saying (told.Found value) finished = answer.Found value
answer_saying told.Absent finished = answer.Absent
answer_saying (told.PendingRead ticket) finished = answer.PendingRead ticket
answer_saying (told.Refreshed phase version) finished = answer.Refreshed phase version
answer_saying (told.Woken phase version) finished = answer.Woken phase version
answer_saying (told.Polled left) finished = answer.Polled (record { items = finished }) left
answer_saying told.Slept finished = answer.Slept
answer_saying (told.Durable serial) finished = answer.Durable serial
answer_saying (told.Refused why) finished = answer.Refused why

module _ (at : Opening → World) where
  -- The handle has run this call, with this answer.
  pub record HasAnswered (before : Session) (call : Call) (answer : Answer) (after : Session) : Type 0 where
    pub called : IsCalled at (sitting_of before) (laid_call (keys_of before) call) answer (sitting_of after)
    pub keys : keys_of after ≡ keys_of before

  -- So it has, and C is told these numbers.
  pub record IsToldIn (before : Session) (call : Call) (its : Numbers) (after : Session) : Type 0 where
    pub answer : Answer
    pub answered : HasAnswered before call answer after
    pub told : its ≡ numbers_of answer
