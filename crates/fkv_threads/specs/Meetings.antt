-- Two sessions of one table meet.
use Rattle.std.specs.Prelude.{◌≡◌, ◌⊎◌, ℕ, List, Some}
use Rattle.fkv_base.specs.declared.numbers.Key.{Key}
use Rattle.fkv_map.specs.declared.operations.Call.TheVariants as call
use Rattle.fkv_map.specs.declared.operations.Op.TheVariants.{Read}
use Rattle.fkv_map.specs.declared.operations.Reply.{Reply}
use Rattle.fkv_opening.specs.declared.opened_store.Opened.{Opened}
use Rattle.fkv_seats.specs.Rule.{GoesOn, IsSeenBy}
use Rattle.fkv_seats.specs.declared.views.Role.TheVariants.{Sits}
use Rattle.fkv_session.specs.declared.answers.Answer.{Answer}
use Rattle.law_threads.specs.Below.fkv_table.Happening.{Happening}
use Rattle.law_threads.specs.Below.fkv_table.Planes.{plane}
use Rattle.law_threads.specs.Below.fkv_world.Runs.{World}
use Rattle.law_threads.specs.Below.fkv_world.World.{Now}
use Rattle.law_threads.specs.Calls.{IsOver, events_of}
use Rattle.law_threads.specs.Laws.{IsWithin}
use Rattle.law_threads.specs.Polls.{IsPolledRead}
use Rattle.law_threads.specs.Threads.{IsBeginning, IsReadSince, history_seen, read_told}
use Rattle.fkv_threads.specs.Calling.{IsCallOf}
use Rattle.fkv_threads.specs.Models.{IsSitting, Sitting}
use Rattle.fkv_threads.specs.Runs.{run_of}

-- They sit at one table, and are two.
pub record AreOfOneTable {K : Type 0} (one other : Sitting K) : Type 0 where
  pub key : other.key ≡ one.key
  pub table : other.table ≡ one.table
  pub apart : ¬ (one.number ≡ other.number)

module _ {K : Type 0} (at : K → World) where
  -- The session sits there as before, and has seen these. They go on from what it had seen, with events of others, and so does their history.
  pub record HasLearned (s : Sitting K) (seen : List Happening) (s' : Sitting K) : Type 0 where
    pub its : s' ≡ record s { seen = seen }
    pub sits : IsSitting at s'
    pub goes_on : GoesOn (plane at) (Sits s.number) s.seen seen
    pub history : (n : Now) (bytes : List ℕ) → IsBeginning (history_seen n bytes s.seen) (history_seen n bytes seen)

  -- Each then has seen what either had seen. That is what one of them had seen before.
  pub record IsMeetingOf (one other one' other' : Sitting K) : Type 0 where
    pub seen : List Happening
    pub first : HasLearned one seen one'
    pub second : HasLearned other seen other'
    pub whose : (seen ≡ one.seen) ⊎ (seen ≡ other.seen)

  -- A session's read was answered by its call.
  pub record IsReadAtOnce (s : Sitting K) (key : Key) (reply : Reply) (s' : Sitting K) : Type 0 where
    pub answer : Answer
    pub called : IsCallOf at s (call.Op (Read key)) answer s'
    pub told : read_told answer ≡ Some reply

  -- Or that call was told to wait, and a later poll of the session has answered it.
  pub record IsReadByPoll (s : Sitting K) (key : Key) (reply : Reply) (s' : Sitting K) : Type 0 where
    pub answer : Answer
    pub waits : Sitting K
    pub called : IsCallOf at s (call.Op (Read key)) answer waits
    pub polls : Sitting K
    pub same : (let its = polls in its.key ≡ s.key)
    pub told : Answer
    pub polled : IsCallOf at polls call.Poll told s'
    pub finished : (let last = waits in let its = polls in IsPolledRead (run_of s.number (call.Op (Read key)) answer s.seen last.seen) (run_of its.number call.Poll told its.seen s'.seen) key reply)

  abbrev pub IsRead : Sitting K → Key → Reply → Sitting K → Type 0
  IsRead s key reply s' = IsReadAtOnce s key reply s' ⊎ IsReadByPoll s key reply s'

  -- Each read that is called behind a meeting gives its key's value after some beginning of the history that holds what the other had seen before. So it is of what the other was told
  -- done, and of a read that has to wait too.
  abbrev pub ReadsWhatTheOtherSaw : Type 0
  ReadsWhatTheOtherSaw = (one other one' other' later after : Sitting K) (key : Key) (reply : Reply) → IsMeetingOf one other one' other' → IsSeenBy (plane at) other'.seen later.seen → IsRead later key reply after
      → (o : Opened) (n : Now) (bytes : List ℕ) → IsOver at later.key o n bytes → IsWithin o n bytes (events_of after.seen) → IsReadSince o n bytes one.seen after.seen key reply
