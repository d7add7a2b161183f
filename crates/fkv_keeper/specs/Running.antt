-- How whole calls of the keeper end, by what it asks last.
use Rattle.std.specs.Prelude.{◌≡◌, Option, Some, None, Result, Ok, Err}
use Rattle.fkv_base.specs.declared.faults.Fault.{Fault}
use Rattle.fkv_base.specs.declared.faults.Fault.TheVariants as fault
use Rattle.fkv_base.specs.declared.numbers.Version.{Version}
use Rattle.fkv_plane.specs.declared.asks.Ask.{Ask}
use Rattle.fkv_plane.specs.declared.asks.Ask.TheVariants.{Done}
use Rattle.fkv_commit.specs.declared.commits.Commit.{Commit}
use Rattle.fkv_keeper.specs.declared.answers.KeeperTold.{KeeperTold}
use Rattle.fkv_keeper.specs.declared.answers.KeeperTold.TheVariants.{Turned, TurnRefused, Begun, CommitRefused}
use Rattle.fkv_keeper.specs.declared.answers.Turn.{Turn}
use Rattle.fkv_keeper.specs.declared.answers.Finished.{Finished}
use Rattle.fkv_keeper.specs.Answers.{AreFinishesTold}
use Rattle.fkv_keeper.specs.Keeping.{Finality, KeeperState}

-- the commit's number, or why it has not begun
abbrev pub IsBeginTold : Ask KeeperTold → Result Version Fault → Type 0
IsBeginTold (Done (Begun number)) result = result ≡ Ok number
IsBeginTold (Done (CommitRefused why)) result = result ≡ Err why
IsBeginTold last result = result ≡ Err fault.CommitRunning

-- a commit that has begun is the one in hand, and a refusal leaves the one that is
abbrev pub IsCommitBegun : Option Commit → Option Commit → Result Version Fault → Type 0
IsCommitBegun before now (Ok number) = (c : Commit) × (now ≡ Some c) × (c.number ≡ number)
IsCommitBegun before now (Err why) = now ≡ before

-- What the turn has done, the finished commit with it just where it finished one; or why it ended early. It stops short of an end only at a slot
-- without an action.
abbrev pub IsTurnTold : Finality → Ask KeeperTold → Result Turn Fault → Type 0
IsTurnTold newest (Done (Turned finished full)) result = (turn : Turn) × (result ≡ Ok turn) × (turn.drain_full ≡ full) × AreFinishesTold newest finished turn.finished
IsTurnTold newest (Done (TurnRefused why)) result = result ≡ Err why
IsTurnTold newest last result = result ≡ Err fault.DrainFull

abbrev pub number_in_hand : Option Commit → Option Version
number_in_hand None = None
number_in_hand (Some c) = Some c.number

-- the newest finished commit stays, and so does the one in hand
abbrev pub IsCommitKept : KeeperState → KeeperState → Type 0
IsCommitKept before now = (now.last ≡ before.last) × (number_in_hand now.commit ≡ number_in_hand before.commit)

-- the commit that was in hand is the newest finished one, and none is in hand any more
abbrev pub IsCommitFinished : KeeperState → KeeperState → Type 0
IsCommitFinished before now = (number_in_hand before.commit ≡ Some now.last.number) × (now.commit ≡ None)

abbrev pub IsFinishMade : KeeperState → KeeperState → Option Finished → Type 0
IsFinishMade before now None = IsCommitKept before now
IsFinishMade before now (Some its) = IsCommitFinished before now

-- a turn has finished a commit just where it tells one
abbrev pub IsTurnMade : KeeperState → KeeperState → Result Turn Fault → Type 0
IsTurnMade before now (Ok turn) = IsFinishMade before now turn.finished
IsTurnMade before now (Err why) = IsCommitKept before now
