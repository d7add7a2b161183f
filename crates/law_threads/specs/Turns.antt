-- What a turn of the keeper at a table tells as finished.
use Rattle.std.specs.Prelude.{◌≡◌, ℕ, List, ◌∷◌, ◌++◌, true, Some, Result, Ok}
use Rattle.atomic_table.specs.Seated.{TableId}
use Rattle.atomic_table.specs.Table.{Me}
use Rattle.fkv_base.specs.declared.commits.CommitKind.{CommitKind}
use Rattle.fkv_base.specs.declared.faults.Fault.{Fault}
use Rattle.law_order.specs.Below.fkv_core.Openings.{beginning}
use Rattle.law_order.specs.Below.fkv_keeper.Finished.{Finished}
use Rattle.law_order.specs.Below.fkv_keeper.Turn.{Turn}
use Rattle.law_order.specs.Below.fkv_keeper.Keeping.{KeeperModel, keeper_ask}
use Rattle.law_order.specs.Below.fkv_keeper.Running.{IsTurnTold}
use Rattle.fkv_map.specs.History.{point_of}
use Rattle.law_order.specs.Below.fkv_opening.TheOpened.{Opened}
use Rattle.law_order.specs.Below.fkv_world.Runs.{World}
use Rattle.law_order.specs.Below.fkv_world.World.{Event, Now}
use Rattle.law_order.specs.Below.law_commit.LastSerials.{serial_at}
use Rattle.law_order.specs.Below.law_commit.BegunCommits.{BegunCommit}
use Rattle.law_order.specs.Prefix.Law.{IsFairPoint, IsInHandAsTaken, past_so_far}
use Rattle.law_order.specs.Rules.Ordered.{now_after}
use Rattle.fkv_table.specs.declared.happenings.Happening.{Happening}
use Rattle.fkv_table.specs.Desks.{Slot, Knows}
use Rattle.fkv_table.specs.Keeps.{IsKeeperReady}
use Rattle.law_threads.specs.Calls.{IsOver, events_of}
use Rattle.law_threads.specs.Kinds.{IsOfKind, kinds_told}
use Rattle.law_threads.specs.Laws.{IsWithin}

-- a turn tells this commit as finished
abbrev pub TellsFinish : Result Turn Fault → Finished → Type 0
TellsFinish told its = (turn : Turn) × (told ≡ Ok turn) × (turn.finished ≡ Some its)

-- At some moment of a life this commit was in hand, as its points had been taken, and they are fair. Each is at least the last serial that its session had given
-- as the commit was asked for, at most the last that it had given by then, and no less than its point in the commit before.
pub record IsTakenFairly (o : Opened) (n : Now) (bytes : List ℕ) (events : List Event) (c : BegunCommit) : Type 0 where
  pub later : List Event
  pub before : List Event
  pub so : events ≡ later ++ before
  pub taken : IsInHandAsTaken (now_after n bytes before) c
  pub fair : (session : ℕ) → IsFairPoint ((past_so_far n bytes before).asked session) (serial_at (now_after n bytes before) session) (point_of (now_after n bytes before).keeper.last.points session) (point_of c.points session)

-- The newest commit of a life is sealed and finished. It has the number and the points that are told, and these are fair. It is of the kind for which the call had
-- asked that has begun it.
pub record IsToldFinished (o : Opened) (n : Now) (bytes : List ℕ) (seen : List Happening) (its : Finished) : Type 0 where
  pub commit : BegunCommit
  pub older : List BegunCommit
  pub newest : (let c = commit in let before = older in (past_so_far n bytes (events_of seen)).begun ≡ c ∷ before)
  pub is_sealed : (let c = commit in c.is_sealed ≡ true)
  pub is_finished : (let c = commit in c.is_finished ≡ true)
  pub number : (let c = commit in its.number ≡ c.number)
  pub points : (let c = commit in its.points.items ≡ c.points)
  pub fair : IsTakenFairly o n bytes (events_of seen) commit
  pub kind : CommitKind
  pub asked : (let k = kind in (kinds_told (beginning n bytes) seen).begun ≡ Some k)
  pub is_of_kind : (let c = commit in IsOfKind kind c older)

module _ {K : Type 0} (at : K → World) where
  -- The keeper has made a turn at a table, and its pass then has seen these: what `Keeper::turn` ensures.
  pub record HasTurned (key : K) (behind : List Happening) (answer : Result Turn Fault) : Type 0 where
    pub table : TableId
    pub seat : TableId
    pub me : Me Slot (Knows K)
    pub machine : KeeperModel
    pub ready : IsKeeperReady at key table seat me machine
    pub seen : (let pass = me in pass.0.seen ≡ behind)
    pub told : (let k = machine in IsTurnTold k.state.last (keeper_ask k.shape k.places k.state) answer)

  -- What it tells as finished is so in each life that keeps to the premise of the law of prefixes.
  abbrev pub TellsItsFinish : K → List Happening → Result Turn Fault → Type 0
  TellsItsFinish key seen told = (o : Opened) (n : Now) (bytes : List ℕ) → IsOver at key o n bytes → IsWithin o n bytes (events_of seen)
      → (its : Finished) → TellsFinish told its → IsToldFinished o n bytes seen its

  -- So it is of each turn that was made.
  abbrev pub OfEachTurn : Type 0
  OfEachTurn = (key : K) (seen : List Happening) (told : Result Turn Fault) → HasTurned key seen told → TellsItsFinish key seen told
