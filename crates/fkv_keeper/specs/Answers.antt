-- What the keeper asks and answers, from what it was told and the newest finished commit.
use Rattle.std.specs.Prelude.{◌≡◌, Bool, true, false, Option, Some, None, Ok, Err}
use Rattle.fkv_plane.specs.declared.asks.Ask.{Ask}
use Rattle.fkv_plane.specs.declared.asks.Ask.TheVariants.{Done}
use Rattle.fkv_plane.specs.Passing.{passed}
use Rattle.fkv_keeper.specs.declared.answers.Finished.{Finished}
use Rattle.fkv_keeper.specs.declared.answers.KeeperAsk.{KeeperAsk}
use Rattle.fkv_keeper.specs.declared.answers.KeeperAsk.TheVariants as ask
use Rattle.fkv_keeper.specs.declared.answers.KeeperTold.{KeeperTold}
use Rattle.fkv_keeper.specs.declared.answers.KeeperTold.TheVariants.{Device, Turned, TurnRefused, Begun, CommitRefused}
use Rattle.fkv_keeper.specs.declared.answers.Turn.{Turn}
use Rattle.fkv_keeper.specs.Keeping.{Finality}

-- a finished commit is told by its number and its points
abbrev pub IsFinishTold : Finality → Finished → Type 0
IsFinishTold last its = (its.number ≡ last.number) × (its.points.items ≡ last.points)

-- where one was finished, it is the newest
abbrev pub AreFinishesTold : Finality → Bool → Option Finished → Type 0
AreFinishesTold last false told = told ≡ None
AreFinishesTold last true told = (its : Finished) × (told ≡ Some its) × IsFinishTold last its

abbrev pub IsKeeperTold : Finality → KeeperTold → KeeperAsk → Type 0
IsKeeperTold last Device its = its ≡ ask.Device
IsKeeperTold last (Turned finished full) its = (turn : Turn) × (its ≡ ask.Turned (Ok turn)) × (turn.drain_full ≡ full) × AreFinishesTold last finished turn.finished
IsKeeperTold last (TurnRefused why) its = its ≡ ask.Turned (Err why)
IsKeeperTold last (Begun number) its = its ≡ ask.Begun (Ok number)
IsKeeperTold last (CommitRefused why) its = its ≡ ask.Begun (Err why)

-- a word's ask is asked, and an end is told
abbrev pub IsAsked : Finality → Ask KeeperTold → KeeperAsk → Type 0
IsAsked last (Done told) its = IsKeeperTold last told its
IsAsked last asked its = its ≡ ask.Word (passed asked tt)

-- a call is in hand where a word or the device is asked for
abbrev pub is_busy : Ask KeeperTold → Bool
is_busy (Done Device) = true
is_busy (Done told) = false
is_busy asked = true
