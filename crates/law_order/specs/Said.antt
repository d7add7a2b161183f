-- What the clauses of `src` say: they take all of it under one name.
pub use Rattle.law_opening.specs.Log.Lives.{KeepsRules}
pub use Rattle.law_order.specs.Apart.Given.{Given}
pub use Rattle.law_order.specs.Decided.Cut.{CoversItsChains, CutsItsLog, DecidesItsLog, EndsRise, HasComeToItsEnd, IsLaterFromEnd, IsOldBelow, IsRecentFromFirst, IsYoungBelowEnd, OfEachBegun}
pub use Rattle.law_order.specs.Decided.Laws.{CopiesBelowTail, HadDecidedFirst, HasChainsBelow, HasDecidedEnd, HasDecidedFirst, HasDecidedSeen, HasSettledEnd, HasSettledFirst, HasTaken, InItsLife}
pub use Rattle.law_order.specs.Decided.Old.{IsLaterAbove, KeepsWhatCounted, LosesAsBefore, MakesLaterAbove, OfEachLife}
pub use Rattle.law_order.specs.InTurn.Laws.{HasFloorInItsLife, KeepsItsViewsNear, KeepsSafeBelowItsComing, KeepsSafeBelowItsViews, NumbersItsCommitsInTurn, OneCommitAlwaysStands, OpensItsStoreAtRest, TellsOfItsLife}
pub use Rattle.law_order.specs.OneHistory.Beside.{HasItsHistory}
pub use Rattle.law_order.specs.OneHistory.Committed.{CommittedLife, CrashedLife}
pub use Rattle.law_order.specs.OneHistory.EachLife.{CommitsAreLive, InEachLife, IsLive, StaysLive}
pub use Rattle.law_order.specs.OneHistory.NewLives.{ShapesHaveLives, StoresHaveLives, WorkedLife}
pub use Rattle.law_order.specs.Opened.{OfItsLives, OfItsSessions}
pub use Rattle.law_order.specs.Ordered.Keeps.{KeepsItsOrder}
pub use Rattle.law_order.specs.Ordered.Met.{SeeksItsReads}
pub use Rattle.law_order.specs.Prefix.Durable.{ToldNeverFalls}
pub use Rattle.law_order.specs.Prefix.Law.{ForgottenHolds, HasCommitsInTurn, HasFairPoints, HasRisingPoints, LivesFollow, LivesReachFar, PrefixLaw, RecoversPrefix, TellsDurable, TellsFinished}
pub use Rattle.law_order.specs.Prefix.Slots.{HomesHaveSlots}
pub use Rattle.law_order.specs.Prefix.Stores.{JoinsValuesAndPoints, KeepsLegally, OfEachCommit, ReplaysKept}
pub use Rattle.law_order.specs.Recovered.Holds.{HoldsItsCommit, HoldsTheNamed}
pub use Rattle.law_order.specs.Recovered.Leaves.{OfEachLeft, OfEachNamed}
pub use Rattle.law_order.specs.Recovered.Parts.{HasOrderlyLog, KeepsCheckpoint, ShowsItsLog, StartsAbove, UsesItsCheckpoint}
pub use Rattle.law_order.specs.Recovered.Points.{CommitsKeepTheirPoints}
pub use Rattle.law_order.specs.Recovered.Shows.{StandsOpened}
pub use Rattle.law_order.specs.Rules.InTime.{ReadsInTime}
pub use Rattle.law_order.specs.Rules.Openings.{BeginsItsLife, OpensItsCuts, OpensItsDurables, OpensItsEnds, OpensItsPoints, OpensItsVersions, OpensWithItsWords}
pub use Rattle.law_order.specs.Rules.Ordered.{HasLegalHistory, IsGuarded, OfEachKept, OrdersItsCalls, ReadsFreshly, RunsActionsOnce}
pub use Rattle.law_order.specs.Rules.Waiting.{UntoldReadsInTime, WaitingReadsInTime}
pub use Rattle.law_order.specs.Shares.{AllShareJustInItsLife, AllShareSinceInItsLife, CountsItsShares, HasNotShifted, HoldsAloneBetweenInItsLife, HoldsApart, HoldsBesideNone, KeepsLatchesApart, LeavesFromPrepareInItsLife, MeetsNoneAloneInItsLife, OfEachSession, OlderComeSharingInItsLife, OlderComesSharing, ShareJustSincePrepare, ShareOnlySinceInItsLife, ShareSincePrepare, SharesInPrepare, SharesInPrepareInItsLife, SharesInTriesOfItsLife, SharesWithTries, ShowsItsLatches}
pub use Rattle.law_order.specs.Versions.{AsksFromFirst, BegunFlush, BegunHaveItsPoints, CutsShowItsPoint, EffectsOfVersions, GetsNoneBack, HasNoneAtZero, HasNoneLeft, ItsCutsGoOn, LastHasItsPoints, LatchesForSaid, LeftPointSplits, LiveIsLater, NewestIsAsTaken, PointSplitsThen, PointStays, PointsRiseFromLast, PointsSinceAsked, PointsUpToGiven, RankGoesOn, RecordsFromFirst, RecordsKeepVersions, RecordsSeenOlder, RecordsUptoBetween, RecordsUptoNow, TakesForAttempted, TakesFromFirst, TakesItsPoints, UpdatesOwnOrBefore}
pub use Rattle.law_commit.specs.Below.law_refine.Latches.Shows.{ArePermitted}
