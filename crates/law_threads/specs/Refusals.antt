-- Why the keeper refuses at a table.
use Rattle.std.specs.Prelude.{◌≡◌, ◌⊎◌, ℕ, true, false, List, Result, Err}
use Rattle.atomic_table.specs.Seated.{TableId}
use Rattle.atomic_table.specs.Table.{Me}
use Rattle.fkv_base.specs.declared.commits.CommitKind.{CommitKind}
use Rattle.fkv_base.specs.declared.faults.Fault.{Fault}
use Rattle.fkv_base.specs.declared.numbers.Version.{Version}
use Rattle.law_causes.specs.Ends.{IsCommitRefused, IsTurnRefused}
use Rattle.law_order.specs.Below.fkv_keeper.KeeperRun.{is_in_hand}
use Rattle.law_order.specs.Below.fkv_keeper.Keeping.{KeeperModel, keeper_ask}
use Rattle.law_order.specs.Below.fkv_keeper.Running.{IsBeginTold}
use Rattle.law_order.specs.Below.fkv_keeper.Turn.{Turn}
use Rattle.law_order.specs.Below.fkv_opening.TheOpened.{Opened}
use Rattle.law_order.specs.Below.fkv_world.OwnEvents.{keeper_events}
use Rattle.law_order.specs.Below.fkv_world.Runs.{World}
use Rattle.law_order.specs.Below.fkv_world.World.{Now}
use Rattle.fkv_table.specs.declared.happenings.Happening.{Happening}
use Rattle.fkv_table.specs.declared.happenings.Happening.TheVariants.{Commits, Turns}
use Rattle.fkv_table.specs.Desks.{Slot, Knows}
use Rattle.fkv_table.specs.KeeperCalls.{HasGoneOn, HasKept}
use Rattle.fkv_table.specs.Keeps.{IsKeeperAtWork}
use Rattle.fkv_table.specs.Turns.{asks_device}
use Rattle.law_threads.specs.Calls.{IsOver, events_of}
use Rattle.law_threads.specs.Turns.{HasTurned}

-- By what its pass has seen the keeper's last call is a turn, and the cause stands at the last event of it.
abbrev pub HasRefusedTurn : World → List Happening → Fault → Type 0
HasRefusedTurn w seen why = IsTurnRefused w.now.shape w.now.places w.now.keeper (keeper_events w (events_of seen)) why

-- So it is with a commit of this kind for which the last call has asked.
abbrev pub HasRefusedCommit : World → CommitKind → List Happening → Fault → Type 0
HasRefusedCommit w kind seen why = IsCommitRefused w.now.shape w.now.places w.now.keeper (keeper_events w (events_of seen)) kind why

module _ {K : Type 0} (at : K → World) where
  -- the keeper is at work at a table, this is its machine, and its pass has seen these
  pub record IsKeeperAt (key : K) (its : List Happening) (k : KeeperModel) : Type 0 where
    pub table : TableId
    pub seat : TableId
    pub me : Me Slot (Knows K)
    pub at_work : IsKeeperAtWork at key table seat me k
    pub seen : (let pass = me in pass.0.seen ≡ its)

  -- From these events on the keeper has made a turn, or a part of one: it has begun where no call was in hand, or was at a call of the device.
  pub record IsInTurn (key : K) (from behind : List Happening) : Type 0 where
    pub machine : KeeperModel
    pub was : IsKeeperAt key from machine
    pub went : (let k = machine in ((is_in_hand k.state.step ≡ false) × HasKept Turns from behind) ⊎ ((asks_device (keeper_ask k.shape k.places k.state) ≡ true) × HasGoneOn from behind))

  -- Where no call was in hand the keeper has asked for a commit of this kind, and this was answered: what `Keeper::start_commit` requires and ensures.
  pub record HasAskedFor (key : K) (kind : CommitKind) (from behind : List Happening) (answer : Result Version Fault) : Type 0 where
    pub machine : KeeperModel
    pub was : IsKeeperAt key from machine
    pub idle : (let k = machine in is_in_hand k.state.step ≡ false)
    pub kept : HasKept (Commits kind) from behind
    pub after : KeeperModel
    pub now : IsKeeperAt key behind after
    pub over : (let k = after in is_in_hand k.state.step ≡ false)
    pub told : (let k = after in IsBeginTold (keeper_ask k.shape k.places k.state) answer)

  -- A refusal of a turn has its cause, and so has one of a commit.
  abbrev pub TellsWhyNoTurn : K → List Happening → Result Turn Fault → Type 0
  TellsWhyNoTurn key behind answer = (o : Opened) (n : Now) (bytes : List ℕ) → IsOver at key o n bytes → (why : Fault) → answer ≡ Err why → HasRefusedTurn (at key) behind why

  abbrev pub TellsWhyNoCommit : K → CommitKind → List Happening → Result Version Fault → Type 0
  TellsWhyNoCommit key kind behind answer = (o : Opened) (n : Now) (bytes : List ℕ) → IsOver at key o n bytes → (why : Fault) → answer ≡ Err why → HasRefusedCommit (at key) kind behind why

  -- So it is of each turn, and of each commit that was asked for.
  pub record OfEachRefusal : Type 0 where
    pub turns : (key : K) (from behind : List Happening) (answer : Result Turn Fault) → IsInTurn key from behind → HasTurned at key behind answer → TellsWhyNoTurn key behind answer
    pub commits : (key : K) (kind : CommitKind) (from behind : List Happening) (answer : Result Version Fault) → HasAskedFor key kind from behind answer → TellsWhyNoCommit key kind behind answer
