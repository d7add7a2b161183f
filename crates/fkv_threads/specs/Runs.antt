-- The thread law of one call.
use Rattle.std.specs.Prelude.{ℕ, List}
use Rattle.fkv_map.specs.declared.operations.Call.{Call}
use Rattle.fkv_opening.specs.declared.opened_store.Opened.{Opened}
use Rattle.fkv_session.specs.declared.answers.Answer.{Answer}
use Rattle.law_threads.specs.Below.fkv_world.Runs.{World}
use Rattle.law_threads.specs.Below.fkv_world.World.{Event, Now}
use Rattle.law_threads.specs.Below.fkv_table.Happening.{Happening}
use Rattle.law_threads.specs.Calls.{CallRun, HasRun, IsOver, events_of}
use Rattle.law_threads.specs.Polls.{AnswersInTime, FinishedIsSeen}
use Rattle.law_threads.specs.Threads.{DoneIsSeen, ReadsWhatWasSeen, StandsInOneHistory}

-- a call, its answer, and what its pass had seen before and has seen behind it
abbrev pub run_of : ℕ → Call → Answer → List Happening → List Happening → CallRun
run_of number call answer before behind = record { number = number; call = call; answer = answer; before = before; behind = behind }

module _ {K : Type 0} (at : K → World) (key : K) (its : CallRun) where
  -- the session has run it
  abbrev pub IsRun : Type 0
  IsRun = HasRun at key its

  -- So it is of this call over each store, if this is so of the events that its pass has seen behind it.
  abbrev pub OfThisRun : (Opened → Now → List ℕ → List Event → Type 0) → (Opened → Now → List ℕ → CallRun → Type 0) → Type 0
  OfThisRun If P = (o : Opened) (n : Now) (bytes : List ℕ) → IsOver at key o n bytes → If o n bytes (events_of its.behind) → P o n bytes its

  -- If the call is a poll, a read that it answers gives its key's value after some beginning of the history that holds what the pass had seen when the read was called.
  abbrev pub PollsInTime : (Opened → Now → List ℕ → List Event → Type 0) → Type 0
  PollsInTime If = (o : Opened) (n : Now) (bytes : List ℕ) (asked : CallRun) → IsOver at key o n bytes → HasRun at key asked → If o n bytes (events_of its.behind) → AnswersInTime o n bytes asked its

  -- What the thread law says of the call, in lives of which this is so.
  pub record IsLawful (If : Opened → Now → List ℕ → List Event → Type 0) : Type 0 where
    pub done : OfThisRun If DoneIsSeen
    pub reads : OfThisRun If ReadsWhatWasSeen
    pub finished : OfThisRun If FinishedIsSeen
    pub polled : PollsInTime If
    pub history : OfThisRun If StandsInOneHistory
