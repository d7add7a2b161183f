-- What the order law says of the calls that threads make.
use Rattle.std.specs.Prelude.{◌≡◌, ℕ, List, ◌++◌, Option, Some, None}
use Rattle.fkv_base.specs.declared.numbers.Key.{Key}
use Rattle.fkv_base.specs.declared.numbers.Serial.{Serial}
use Rattle.fkv_map.specs.declared.history.HistoryEntry.{HistoryEntry}
use Rattle.fkv_map.specs.declared.operations.Call.TheVariants as call
use Rattle.fkv_map.specs.declared.operations.Op.TheVariants.{Read}
use Rattle.fkv_map.specs.declared.operations.Reply.{Reply}
use Rattle.fkv_map.specs.declared.operations.Reply.TheVariants as reply
use Rattle.law_order.specs.Below.fkv_opening.TheOpened.{Opened}
use Rattle.law_order.specs.Below.fkv_session.Answer.{Answer}
use Rattle.law_order.specs.Below.fkv_session.Answer.TheVariants as answer
use Rattle.law_order.specs.Below.fkv_world.World.{Now}
use Rattle.law_log.specs.Trace.{HasReply}
use Rattle.law_order.specs.Below.law_opening.Log.Maps.{opening_map}
use Rattle.law_order.specs.Prefix.Law.{history_so_far}
use Rattle.law_order.specs.Rules.InTime.{IsInTime}
use Rattle.law_order.specs.Rules.Ordered.{HasLegalHistory, OrdersItsCalls, effects_so_far}
use Rattle.fkv_table.specs.declared.happenings.Happening.{Happening}
use Rattle.law_threads.specs.Calls.{CallRun, events_of}

-- the updates that have taken effect by what was seen, in order
abbrev pub history_seen : Now → List ℕ → List Happening → List HistoryEntry
history_seen n bytes seen = history_so_far n bytes (events_of seen)

-- a history begins with another
pub record IsBeginning (less more : List HistoryEntry) : Type 0 where
  pub newer : List HistoryEntry
  pub whole : more ≡ less ++ newer

-- ---- done
-- The update has taken effect by what the pass has seen behind it: the session's, of this serial, with the reply that was given, and of the operation that was called.
pub record HasTakenEffect (n : Now) (bytes : List ℕ) (its : CallRun) (serial : Serial) (reply : Reply) : Type 0 where
  pub update : HasReply (effects_so_far n bytes (events_of its.behind)) its.number serial.0 reply
  pub called : (let u = update in its.call ≡ call.Op u.update.effect.entry.op)

-- so has each that is done
abbrev pub DoneIsSeen : Opened → Now → List ℕ → CallRun → Type 0
DoneIsSeen o n bytes its = (serial : Serial) (reply : Reply) → its.answer ≡ answer.Done serial reply → HasTakenEffect n bytes its serial reply

-- ---- reads
-- what a read is told at its call
abbrev pub read_told : Answer → Option Reply
read_told (answer.Found value) = Some (reply.Found value)
read_told answer.Absent = Some reply.Absent
read_told its = None

-- The reply is the key's value after some beginning of the history as it was seen behind, which holds the history as it was seen before.
abbrev pub IsReadSince : Opened → Now → List ℕ → List Happening → List Happening → Key → Reply → Type 0
IsReadSince o n bytes before behind key reply = IsInTime (opening_map bytes o) (history_seen n bytes before) (history_seen n bytes behind) key.0 reply

-- A read gives its key's value after some beginning of the history that holds what its pass had seen when it was called.
abbrev pub ReadsWhatWasSeen : Opened → Now → List ℕ → CallRun → Type 0
ReadsWhatWasSeen o n bytes its = (key : Key) (reply : Reply) → its.call ≡ call.Op (Read key) → read_told its.answer ≡ Some reply
    → IsReadSince o n bytes its.before its.behind key reply

-- ---- one history
-- What the pass has seen behind the call has one legal history. The calls that were answered stand in it, with serials and replies, once each and in their order.
-- It begins with the history of what the pass had seen before.
pub record StandsInOneHistory (o : Opened) (n : Now) (bytes : List ℕ) (its : CallRun) : Type 0 where
  pub legal : HasLegalHistory o n bytes (events_of its.behind)
  pub ordered : OrdersItsCalls o n bytes (events_of its.behind)
  pub begins : IsBeginning (history_seen n bytes its.before) (history_seen n bytes its.behind)
