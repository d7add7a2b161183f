-- What a session's log has, by the answers that the session was given.
use Rattle.std.specs.Prelude.{ℕ, ◌+◌, ◌-◌, List, [], ◌∷◌, nat_lt, if◌then◌else◌, Option, None, slice_get}
use Rattle.std.specs.List.{flat_map}
use Rattle.fkv_base.specs.declared.numbers.Serial.{Serial}
use Rattle.fkv_map.specs.declared.operations.Call.{Call}
use Rattle.fkv_map.specs.declared.operations.Call.TheVariants as call
use Rattle.fkv_map.specs.declared.operations.Op.{Op}
use Rattle.fkv_session.specs.declared.answers.Answer.{Answer}
use Rattle.fkv_session.specs.declared.answers.Answer.TheVariants as answer
use Rattle.fkv_session.specs.declared.answers.Finished.{Finished}
use Rattle.fkv_session.specs.declared.answers.Finished.TheVariants.{Update, Read}

-- the operation of a call, if it is one
abbrev pub operations_of : Call → List Op
operations_of (call.Op op) = op ∷ []
operations_of its = []

-- the update that this answer to a call accepts
abbrev pub accepted_by : Call → Answer → List Op
accepted_by its (answer.Done serial reply) = operations_of its
accepted_by its (answer.Pending serial reason) = operations_of its
accepted_by its given = []

-- the serial of an update that a poll has finished
abbrev pub update_in : Finished → List Serial
update_in (Update serial reply) = serial ∷ []
update_in (Read ticket value) = []

-- those of all of them, in the poll's order
abbrev pub updates_in : List Finished → List Serial
updates_in finished = flat_map update_in finished

-- the serials of the updates whose results an answer tells
abbrev pub told_by : Answer → List Serial
told_by (answer.Done serial reply) = serial ∷ []
told_by (answer.Polled list left) = updates_in list.items
told_by given = []

-- the last serial that was told as durable
abbrev pub durable_by : Serial → Answer → Serial
durable_by before (answer.Durable serial) = serial
durable_by before given = before

-- the update of a serial, of those that were accepted behind a first serial
abbrev pub update_of : ℕ → List Op → Serial → Option Op
update_of first accepted serial = if nat_lt first serial.0 then slice_get accepted (serial.0 - (first + 1)) else None
