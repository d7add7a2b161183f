-- What the laws of versions, of how they end and of points say of the lives of opened stores, in the words of `law_commit`.
use Rattle.std.specs.Prelude.{◌≡◌, ◌-◌, ◌≤◌, ◌∷◌, ◌++◌, ℕ, List, Some, true}
use Rattle.law_commit.specs.Below.fkv_commit.Commit.{Commit}
use Rattle.fkv_map.specs.History.{point_of}
use Rattle.law_commit.specs.Below.fkv_session.InOrder.{owing_place}
use Rattle.law_commit.specs.Below.fkv_session.Sessions.{SessionState}
use Rattle.law_commit.specs.Below.fkv_session.Catching.TheVariants.{Latches}
use Rattle.law_commit.specs.Below.fkv_session.CatchCause.{CatchCause}
use Rattle.law_commit.specs.Below.fkv_session.Sitting.TheVariants.{CatchesUp}
use Rattle.fkv_words.specs.PhaseWords.{phase_said}
use Rattle.law_commit.specs.Below.fkv_world.Opened.{HasBecome}
use Rattle.law_commit.specs.Below.fkv_world.Runs.{World, run}
use Rattle.law_commit.specs.Below.fkv_world.World.{Event, seat_at}
use Rattle.law_log.specs.Ghosts.{GhostEvent, Ghosts, ghost_run}
use Rattle.law_log.specs.Trace.{IsIn}
use Rattle.law_commit.specs.Below.law_refine.Events.Effects.{step_at}
use Rattle.law_commit.specs.Below.law_refine.Events.GhostEvents.{ghost_events, home_in, life_ghosts, mapped, serials_in}
use Rattle.law_commit.specs.Below.law_refine.Events.Reserved.{tail_at}
use Rattle.law_commit.specs.Accepted.{point}
use Rattle.law_commit.specs.LastSerials.{serial_at}
use Rattle.law_commit.specs.BegunCommits.{BegunCommit, life_begun}
use Rattle.law_commit.specs.Cuts.{word_now}
use Rattle.law_commit.specs.PhaseStores.{phase_at}
use Rattle.law_commit.specs.PhaseVersions.{phase_version}
use Rattle.law_commit.specs.Points.{ArePointsOf, BeginsAsTaken, GoOn, first_cut, other_cut}
use Rattle.law_commit.specs.PrefixPast.{serials_asked}
use Rattle.law_commit.specs.Quiet.{HasNoneUpto, HasOwnOrBefore, IsLiveLater, PointSplitsAt, ShowsPoint, flush_rank, pending_rank, rank_now}
use Rattle.law_commit.specs.Versions.Cells.{AllReserveFromUpto, AllReserveOf, CellsFrom, CellsUpto, KeepsVersions}
use Rattle.law_commit.specs.Versions.Effects.{HasEffectsOfItsVersions, PointSplits}
use Rattle.law_commit.specs.Versions.Laws.{first_version, version_now}
use Rattle.law_commit.specs.Versions.Requests.{AreUpdatesSo, RequestsFrom}
use Rattle.law_commit.specs.Versions.Seen.{HasSeenOlder}
use Rattle.law_commit.specs.Views.{sight_of}

-- ---- versions of requests, records and effects
-- the updates of a session are of versions from the first one up to its own
abbrev pub AsksFromFirst : World → List Event → ℕ → SessionState → SessionState → Type 0
AsksFromFirst opening events session first its = RequestsFrom (first_version opening) its

-- the next event, whatever it is, takes an address for a record of the version of the request that is attempted
abbrev pub TakesForAttempted : World → List Event → Type 0
TakesForAttempted opening events = (event : Event) → AllReserveOf (step_at (run opening events).now event).version.0 (ghost_events (serials_in opening.now) (run opening events) event)

-- which is one from the first up to the phase word's
abbrev pub TakesFromFirst : World → List Event → Type 0
TakesFromFirst opening events = (event : Event) → AllReserveFromUpto (first_version opening) (version_now opening events) (ghost_events (serials_in opening.now) (run opening events) event)

-- no record is of a later version than the phase word's
abbrev pub RecordsUptoNow : World → Ghosts → List Event → Type 0
RecordsUptoNow opening ghosts events = CellsUpto (version_now opening events) (life_ghosts opening ghosts events).log

-- nor between the events of the log that the next event is
abbrev pub RecordsUptoBetween : World → Ghosts → List Event → Type 0
RecordsUptoBetween opening ghosts events =
    (event : Event) (later earlier : List GhostEvent) → ghost_events (serials_in opening.now) (run opening events) event ≡ later ++ earlier
    → CellsUpto (version_now opening events) (ghost_run (home_in opening.now.shape.bucket_bits) ghosts (earlier ++ mapped opening events)).log

-- those of the life itself are of no earlier one than the first
abbrev pub RecordsFromFirst : World → Ghosts → List Event → Type 0
RecordsFromFirst opening ghosts events = CellsFrom (tail_at opening.now) (first_version opening) (life_ghosts opening ghosts events).log

-- a record below the tail keeps its version, whatever comes later
abbrev pub RecordsKeepVersions : World → Ghosts → List Event → Type 0
RecordsKeepVersions opening ghosts events = (later : List Event) → KeepsVersions (tail_at (run opening events).now) (life_ghosts opening ghosts events).log (life_ghosts opening ghosts (later ++ events)).log

-- what a session has seen older is older
abbrev pub RecordsSeenOlder : World → Ghosts → List Event → Type 0
RecordsSeenOlder opening ghosts events = (session : ℕ) (first its : SessionState) → HasBecome opening events session first its → HasSeenOlder (sight_of opening events session) (life_ghosts opening ghosts events).log

-- the effects of a session are of the versions at which it has accepted their updates
abbrev pub EffectsOfVersions : World → List Event → ℕ → SessionState → SessionState → Type 0
EffectsOfVersions opening events session first its = HasEffectsOfItsVersions opening session first its events

-- its point of a version that it has left splits them by version
abbrev pub LeftPointSplits : World → List Event → ℕ → SessionState → SessionState → Type 0
LeftPointSplits opening events session first its = PointSplits opening session its events

-- ---- how a version ends
-- the rank of the phase word doesn't fall at the next event
abbrev pub RankGoesOn : World → List Event → Type 0
RankGoesOn opening events = (event : Event) → rank_now opening events ≤ rank_now opening (event ∷ events)

-- from wait-pending of a commit on, a session that is awake goes by a later version
abbrev pub LiveIsLater : World → List Event → ℕ → SessionState → SessionState → Type 0
LiveIsLater opening events session first its = (version : ℕ) → pending_rank version ≤ rank_now opening events → IsLiveLater version its

-- if it has no update up to that version then, it gets none any more
abbrev pub GetsNoneBack : World → List Event → ℕ → SessionState → SessionState → Type 0
GetsNoneBack opening events session first its =
    (version : ℕ) (later : List Event) (next : SessionState) → pending_rank version ≤ rank_now opening events → HasNoneUpto version its → HasBecome opening (later ++ events) session first next → HasNoneUpto version next

-- if its owing word reads 0 in wait-pending, it has none
abbrev pub HasNoneAtZero : World → List Event → ℕ → SessionState → SessionState → Type 0
HasNoneAtZero opening events session first its =
    (version : ℕ) → rank_now opening events ≡ pending_rank version → word_now opening events (owing_place (seat_at opening.now session)) ≡ 0 → HasNoneUpto version its

-- from wait-flush on it has none
abbrev pub HasNoneLeft : World → List Event → ℕ → SessionState → SessionState → Type 0
HasNoneLeft opening events session first its = (version : ℕ) → flush_rank version ≤ rank_now opening events → HasNoneUpto version its

-- each of its updates is of its version, or of the one before as long as the phase word says so
abbrev pub UpdatesOwnOrBefore : World → List Event → ℕ → SessionState → SessionState → Type 0
UpdatesOwnOrBefore opening events session first its = HasOwnOrBefore (phase_said (phase_at (run opening events).now)) its

-- as it takes shares for what waits, each update that waits is of the version that the phase word says
abbrev pub LatchesForSaid : World → List Event → ℕ → SessionState → SessionState → Type 0
LatchesForSaid opening events session first its =
    (cause : CatchCause) (i : ℕ) → its.step ≡ CatchesUp cause → its.catching.step ≡ Latches i → AreUpdatesSo (λ version. version ≡ phase_version (run opening events).now.words) its.requests

-- from wait-pending of a commit on, its point of the commit's number stays
abbrev pub PointStays : World → List Event → ℕ → SessionState → SessionState → Type 0
PointStays opening events session first its = (version : ℕ) (later : List Event) → pending_rank version ≤ rank_now opening events → point opening (later ++ events) session version ≡ point opening events session version

-- and splits its effects by version
abbrev pub PointSplitsThen : World → List Event → ℕ → SessionState → SessionState → Type 0
PointSplitsThen opening events session first its = (version : ℕ) → pending_rank version ≤ rank_now opening events → PointSplitsAt opening session version events

-- each commit that has begun, with the opening's, has come to wait-flush
abbrev pub BegunFlush : World → List Event → Type 0
BegunFlush opening events = (c : BegunCommit) → IsIn c (life_begun opening events) → flush_rank c.number.0 ≤ rank_now opening events

-- ---- the points that commits take
-- in wait-pending the two cut words of a session show its point of the commit's number
abbrev pub CutsShowItsPoint : World → List Event → ℕ → SessionState → SessionState → Type 0
CutsShowItsPoint opening events session first its =
    (version : ℕ) → rank_now opening events ≡ pending_rank version → ShowsPoint version (point opening events session (version - 1)) (point opening events session version) (first_cut opening events session version) (other_cut opening events session version)

-- as long as it is wait-pending, the first stays or becomes the cut at that point, and the other stays or becomes a cut of the next version
abbrev pub ItsCutsGoOn : World → List Event → ℕ → SessionState → SessionState → Type 0
ItsCutsGoOn opening events session first its =
    (version : ℕ) (later : List Event) → rank_now opening events ≡ pending_rank version → rank_now opening (later ++ events) ≡ pending_rank version
    → GoOn version (point opening events session version) (first_cut opening events session version) (other_cut opening events session version) (first_cut opening (later ++ events) session version)
    (other_cut opening (later ++ events) session version)

-- once the commit in hand has its points, they are the sessions' points of its number
abbrev pub TakesItsPoints : World → List Event → Type 0
TakesItsPoints opening events =
    (c : Commit) → (run opening events).now.keeper.commit ≡ Some c → (run opening events).now.keeper.has_points ≡ true → ArePointsOf opening events c.number.0 (run opening events).now.keeper.seek.points

-- so are those of each commit that has begun, with the opening's
abbrev pub BegunHaveItsPoints : World → List Event → Type 0
BegunHaveItsPoints opening events = (c : BegunCommit) → IsIn c (life_begun opening events) → ArePointsOf opening events c.number.0 c.points

-- the newest that has begun is the one in hand, with the points that were taken, as long as it isn't finished
abbrev pub NewestIsAsTaken : World → List Event → Type 0
NewestIsAsTaken opening events = BeginsAsTaken (run opening events).now.keeper (life_begun opening events)

-- the points of the newest finished commit are those of its number
abbrev pub LastHasItsPoints : World → List Event → Type 0
LastHasItsPoints opening events = ArePointsOf opening events (run opening events).now.keeper.last.number.0 (run opening events).now.keeper.last.points

-- those of the commit in hand are no less
abbrev pub PointsRiseFromLast : World → List Event → Type 0
PointsRiseFromLast opening events =
    (c : Commit) (session : ℕ) → (run opening events).now.keeper.commit ≡ Some c → (run opening events).now.keeper.has_points ≡ true
    → point_of (run opening events).now.keeper.last.points session ≤ point_of (run opening events).now.keeper.seek.points session

-- a session's point of the commit in hand is no less than what the session had given as the commit was asked for
abbrev pub PointsSinceAsked : World → List Event → Type 0
PointsSinceAsked opening events = (c : Commit) (session : ℕ) → (run opening events).now.keeper.commit ≡ Some c → serials_asked opening events session ≤ point opening events session c.number.0

-- and none is more than what it has given
abbrev pub PointsUpToGiven : World → List Event → Type 0
PointsUpToGiven opening events = (session version : ℕ) → point opening events session version ≤ serial_at (run opening events).now session
