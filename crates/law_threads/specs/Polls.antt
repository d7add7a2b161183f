-- What a poll at a table has finished.
use Rattle.std.specs.Prelude.{◌≡◌, ℕ, List, ◌++◌, Option}
use Rattle.fkv_base.specs.declared.numbers.Key.{Key}
use Rattle.fkv_base.specs.declared.numbers.Serial.{Serial}
use Rattle.fkv_base.specs.declared.numbers.Value.{Value}
use Rattle.fkv_map.specs.declared.operations.Call.TheVariants as call
use Rattle.fkv_map.specs.declared.operations.Op.TheVariants.{Read}
use Rattle.fkv_map.specs.declared.operations.Reply.{Reply}
use Rattle.law_order.specs.Below.fkv_opening.TheOpened.{Opened}
use Rattle.law_order.specs.Below.fkv_pending.Ticket.{Ticket}
use Rattle.law_order.specs.Below.fkv_session.Answer.{Answer}
use Rattle.law_order.specs.Below.fkv_session.Answer.TheVariants as answer
use Rattle.law_order.specs.Below.fkv_session.Finished.{Finished}
use Rattle.law_order.specs.Below.fkv_session.Finished.TheVariants as finished
use Rattle.law_order.specs.Below.fkv_world.Runs.{World}
use Rattle.law_order.specs.Below.fkv_world.World.{Event, Now}
use Rattle.law_log.specs.Trace.{HasReply, IsIn}
use Rattle.law_order.specs.Rules.Ordered.{effects_so_far}
use Rattle.law_order.specs.Tickets.Few.{HasFewCalls}
use Rattle.law_order.specs.Below.law_refine.Events.Lines.{read_reply}
use Rattle.fkv_table.specs.declared.happenings.Happening.{Happening}
use Rattle.law_threads.specs.Calls.{CallRun, HasRun, IsOver, events_of}
use Rattle.law_threads.specs.Threads.{IsReadSince}

-- an answer says that this is finished
abbrev pub HasFinished : Answer → Finished → Type 0
HasFinished (answer.Polled list left) its = IsIn its list.items
HasFinished its_answer its = ⊥

-- An update that a poll says is finished has taken effect by what the pass has seen, with its serial and the reply that is told.
abbrev pub FinishedIsSeen : Opened → Now → List ℕ → CallRun → Type 0
FinishedIsSeen o n bytes its = (serial : Serial) (reply : Reply) → HasFinished its.answer (finished.Update serial reply) → HasReply (effects_so_far n bytes (events_of its.behind)) its.number serial.0 reply

-- A poll gives this reply to a read that the session had been told to wait for: its pass had seen then what the read's call had led to.
pub record IsPolledRead (asked poll : CallRun) (key : Key) (reply : Reply) : Type 0 where
  pub ticket : Ticket
  pub reads : asked.call ≡ call.Op (Read key)
  pub waits : asked.answer ≡ answer.PendingRead ticket
  pub same : poll.number ≡ asked.number
  pub polls : poll.call ≡ call.Poll
  pub value : Option Value
  pub has_finished : HasFinished poll.answer (finished.Read ticket value)
  pub told : reply ≡ read_reply value
  pub later : List Happening
  pub behind : poll.before ≡ later ++ asked.behind

-- Such a read too gives its key's value after some beginning of the history that holds what its pass had seen when it was called, if few calls begin.
abbrev pub AnswersInTime : Opened → Now → List ℕ → CallRun → CallRun → Type 0
AnswersInTime o n bytes asked poll = HasFewCalls (events_of poll.behind) → (k : Key) (reply : Reply) → IsPolledRead asked poll k reply → IsReadSince o n bytes asked.before poll.behind k reply

-- so does each poll at a table, in lives of which this is so
abbrev pub PollsWhatWasSeen : {K : Type 0} → (K → World) → (Opened → Now → List ℕ → List Event → Type 0) → Type 0
PollsWhatWasSeen {K} at If = (key : K) (o : Opened) (n : Now) (bytes : List ℕ) (asked poll : CallRun) → IsOver at key o n bytes → HasRun at key asked → HasRun at key poll
    → If o n bytes (events_of poll.behind) → AnswersInTime o n bytes asked poll
