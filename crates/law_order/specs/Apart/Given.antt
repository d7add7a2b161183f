-- What the laws of phases, latches, ends of versions and ends of commits say of a life, and what goes on to hold of its log.
use Rattle.law_commit.specs.Decided.Below.{IsLaterFromEnd, OfEachBegun}
use Rattle.law_commit.specs.Decided.Ended.{CommitsHaveEnded}
use Rattle.law_commit.specs.Floor.Stands.{FloorAlwaysStands, PaperHasFloor, PaperIsSound}
use Rattle.law_commit.specs.Laws.Pasts.{BegunAreAsKept, ItsVersionIsNotAhead}
use Rattle.law_commit.specs.Laws.Phases.{SafeIsBelowViews}
use Rattle.law_commit.specs.Quiet.{LatchesAtItsVersion, NoneIsLeft}
use Rattle.law_commit.specs.Shares.Alone.{BitIsPastPrepare}
use Rattle.law_commit.specs.Shares.Since.{OlderComeSharing}
use Rattle.law_commit.specs.Shares.Waiting.{SharesInPrepare}
use Rattle.law_log.specs.Begins.{EachVersionStaysLive, Live, LiveAtRest, StaysFromThere}
use Rattle.law_commit.specs.Versions.Laws.{HasCellsUpto}
use Rattle.law_commit.specs.Below.law_refine.Latches.InTries.{StandsBesideNone}

pub record Given : Type 0 where
  pub sound : PaperIsSound
  pub floor : PaperHasFloor
  pub floors : FloorAlwaysStands
  pub left : NoneIsLeft
  pub prepare : SharesInPrepare
  pub bit : BitIsPastPrepare
  pub older : OlderComeSharing
  pub latches : LatchesAtItsVersion
  pub ahead : ItsVersionIsNotAhead
  pub beside : StandsBesideNone
  pub safe : SafeIsBelowViews
  pub begun : BegunAreAsKept
  pub ended : CommitsHaveEnded
  pub later : OfEachBegun IsLaterFromEnd
  pub stays : StaysFromThere Live
  pub versions : EachVersionStaysLive
  pub rest : LiveAtRest
  pub cells : HasCellsUpto
