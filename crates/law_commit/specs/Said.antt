-- What the clauses of `src` say: they take all of it under one name.
pub use Rattle.law_commit.specs.Begins.{BegunBeginBelow, BegunBeginOn, BegunBeginThen, BeginsNeverFall, OldBeginAsOpened, SpecifiedBeginsStay}
pub use Rattle.law_commit.specs.Decided.Below.{ButOpenings, EndsRise, FullCommitsSpellChains, IsLaterFromEnd, IsOldBelowFirst, IsRecentFromFirst, IsSettledBelowEnd, IsYoungBelowEnd, OfEachBegun}
pub use Rattle.law_commit.specs.Decided.Ended.{CommitsHaveEnded}
pub use Rattle.law_commit.specs.Decided.Later.{AttemptsLaterButPolls, GoesByLater, MakesLaterFrom}
pub use Rattle.law_commit.specs.Decided.Laws.{ChainsKeepTheOld, ChainsLieBelowTail, DecidesBeforeCopies, DecidesBelowEnd, DecidesBelowFirst, DecidesBelowViews, MakesAboveItsView, SettlesBelowEnd, SettlesBelowFirst, SettlesDecided, StaysDecided, TakesUptoTail, TriplesLieBelowTail}
pub use Rattle.law_commit.specs.Floor.OnPaper.{LivesAreOnPaper}
pub use Rattle.law_commit.specs.Floor.Stands.{FloorAlwaysStands, ViewsAreNear}
pub use Rattle.law_commit.specs.Laws.Linked.{LinkersHaveMetEmptyChains, LinksMeetEmptyChains}
pub use Rattle.law_commit.specs.Laws.Pasts.{BegunAreAsKept, BegunAreInTurn, FinishedAreTold, GoesByItsView, ItsVersionIsNotAhead, ItsVersionNeverFalls, KeeperStoresItsPhase, NewestIsAsWritten, NumbersAreInTurn, PastIsWorked, SerialIsThePoint, SerialsCountUpdates, SessionsStoreClaimedPhases, TakesUpWhatIsComing, VersionsNeverFall, ViewsAreStamped}
pub use Rattle.law_commit.specs.Laws.Phases.{ComingIsAboveSafe, CommitsGoByStages, LiveIsAwake, OpeningShowsSessions, PhaseVersionNeverFalls, RestIsOfTheNextVersion, SafeIsBelowComing, SafeIsBelowViews, StampsAreLoads, ViewsAreAboveSafe}
pub use Rattle.law_commit.specs.Phases.Projected.{EventsAreShown, OpeningsAreSound, QuietEventsAreShown, RepliesAreShown, SafeIsEnabled}
pub use Rattle.law_commit.specs.Phases.Running.{KeeperRunsSafely, SessionsRunSafely}
pub use Rattle.law_commit.specs.Phases.Stamped.{RepliesKeepStamps}
pub use Rattle.law_commit.specs.Points.{BegunAreAsTaken, BegunHavePoints, CutsGoOn, LastHasPoints, RisesByVersion, RisesFromLast, SinceAsked, TakesPoints, UpToGiven}
pub use Rattle.law_commit.specs.Quiet.{BegunHaveFlushed, CutsShowPoints, LatchesAtItsVersion, LiveAreLater, NoneComesBack, NoneIsLeft, OwesNone, PointsAlwaysSplit, PointsStay, RanksRise, WaitsFromBefore}
pub use Rattle.law_commit.specs.Shares.Alone.{BitIsPastPrepare, HoldsAloneBetween, HoldsAloneByRank, MeetsNoneAlone}
pub use Rattle.law_commit.specs.Shares.Leaving.{LeavesFromPrepare}
pub use Rattle.law_commit.specs.Shares.Since.{AllShareJust, AllShareSince, OlderComeSharing, ShareOnlySince}
pub use Rattle.law_commit.specs.Shares.Tries.{SharesInTries}
pub use Rattle.law_commit.specs.Shares.Waiting.{SharesInPrepare}
pub use Rattle.law_commit.specs.ToldDurable.{TellsSealedPoints, ToldNeverFalls}
pub use Rattle.law_commit.specs.Versions.Laws.{HasCellsFrom, HasCellsUpto, HasCellsUptoBetween, HasEffectsOfVersions, HasRequestsFrom, HasSplittingPoints, KeepsItsVersions, ReservesFromUpto, ReservesItsVersion, SeesOlder}
pub use Rattle.law_commit.specs.Worked.{AskedChanges, BegunChange, CountsUpto, OpenedWith, RaisesChange, RanksInTurn, ToldChanges, ViewsChange}
pub use Rattle.law_commit.specs.WorkedRuns.{RaisesOfRuns}
