-- The thread law, by clauses of the order law and of the law of prefixes.
use Rattle.std.specs.Prelude.{◌≡◌, ◌⊎◌, ℕ, List}
use mathlib.Core.Option.{some}
use lib.ListN.{get_elem?}
use Rattle.atomic_table.specs.Table.{State}
use Rattle.fkv_base.specs.declared.numbers.Key.{Key}
use Rattle.fkv_map.specs.declared.operations.Reply.{Reply}
use Rattle.law_order.specs.Below.fkv_opening.TheOpened.{Opened}
use Rattle.fkv_seats.specs.Rule.{AreAllowed, IsSeenBy, Ruled}
use Rattle.law_order.specs.Below.fkv_world.Runs.{World}
use Rattle.law_order.specs.Below.fkv_world.World.{Event, Now}
use Rattle.law_order.specs.Tickets.Few.{HasFewCalls}
use Rattle.fkv_table.specs.declared.happenings.Happening.{Happening}
use Rattle.fkv_table.specs.Desks.{Slot, Knows}
use Rattle.fkv_table.specs.Planes.{plane}
use Rattle.law_threads.specs.Calls.{IsOver, OfEachRun}
use Rattle.law_threads.specs.Polls.{FinishedIsSeen, PollsWhatWasSeen}
use Rattle.law_threads.specs.Threads.{DoneIsSeen, IsBeginning, IsReadSince, ReadsWhatWasSeen, StandsInOneHistory, history_seen}

-- The premise of the order law, and of the law of prefixes: fewer than 2^64 - 1 calls. Their other one, numbers below 2^64, holds of all that may stand in a table's list.
abbrev pub IsWithin : Opened → Now → List ℕ → List Event → Type 0
IsWithin o n bytes events = HasFewCalls events

-- The thread law, of lives of which this is so.
pub record IsThreadLaw {K : Type 0} (at : K → World) (If : Opened → Now → List ℕ → List Event → Type 0) : Type 0 where
  pub done : OfEachRun at If DoneIsSeen
  pub reads : OfEachRun at If ReadsWhatWasSeen
  pub finished : OfEachRun at If FinishedIsSeen
  pub polled : PollsWhatWasSeen at If
  pub history : OfEachRun at If StandsInOneHistory

-- ---- views
-- What one pass has seen is a beginning of what another has, of which all may stand in the list, and so are their histories.
pub record IsSeenIn {K : Type 0} (at : K → World) (n : Now) (bytes : List ℕ) (less more : List Happening) : Type 0 where
  pub seen : IsSeenBy (plane at) less more
  pub allowed : AreAllowed (plane at) more
  pub history : IsBeginning (history_seen n bytes less) (history_seen n bytes more)

-- What was seen before is a beginning of what is seen later, and so are their histories. What is read since the later one is read since the earlier one.
pub record GoesOnFromWhatWasSeen {K : Type 0} (at : K → World) : Type 0 where
  pub history : (n : Now) (bytes : List ℕ) (less more : List Happening) → IsSeenBy (plane at) less more → IsBeginning (history_seen n bytes less) (history_seen n bytes more)
  pub reads : (o : Opened) (n : Now) (bytes : List ℕ) (less more behind : List Happening) (key : Key) (reply : Reply) → IsSeenBy (plane at) less more → IsReadSince o n bytes more behind key reply → IsReadSince o n bytes less behind key reply

-- So it is of any two passes at one moment of a table.
abbrev pub SharesOneHistory : {K : Type 0} → (K → World) → Type 0
SharesOneHistory {K} at = (key : K) (o : Opened) (n : Now) (bytes : List ℕ) (s : State Slot (Knows K)) (id other : ℕ) (v u : Knows K) → IsOver at key o n bytes → Ruled (plane at) key s
    → get_elem? s.views id ≡ some v → get_elem? s.views other ≡ some u → IsSeenIn at n bytes v.seen u.seen ⊎ IsSeenIn at n bytes u.seen v.seen
