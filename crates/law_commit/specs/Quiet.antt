-- That no update of a version is left, nor comes any more.
use Rattle.std.specs.Prelude.{◌≡◌, ◌⊎◌, ◌+◌, ◌-◌, ◌*◌, ◌<◌, ◌≤◌, nat_le, ℕ, true, List, ◌∷◌, ◌++◌}
use Rattle.fkv_base.specs.declared.numbers.Version.{Version}
use Rattle.fkv_base.specs.declared.phases.Phase.TheVariants.{InProgress, WaitPending}
use Rattle.fkv_words.specs.declared.phase_words.PhaseSaid.{PhaseSaid}
use Rattle.fkv_words.specs.declared.phase_words.PhaseSaid.TheVariants.{Says, Spoiled}
use Rattle.fkv_words.specs.PhaseWords.{phase_said}
use Rattle.fkv_plane.specs.Places.{session_place}
use Rattle.law_refine.specs.Below.fkv_commit.Cuts.{cut_of, other_cut_of}
use Rattle.law_refine.specs.Below.fkv_session.Catching.TheVariants.{Latches}
use Rattle.law_refine.specs.Below.fkv_session.CatchCause.{CatchCause}
use Rattle.law_refine.specs.Below.fkv_session.Sitting.TheVariants.{CatchesUp}
use Rattle.law_refine.specs.Below.fkv_session.CatchingUp.{cut_at}
use Rattle.law_refine.specs.Below.fkv_session.InOrder.{owing_place}
use Rattle.law_refine.specs.Below.fkv_session.Sessions.{SessionState}
use Rattle.law_refine.specs.Below.fkv_world.Opened.{HasBecome, IsOpenedWorld}
use Rattle.law_refine.specs.Below.fkv_world.Past.{Effect}
use Rattle.law_refine.specs.Below.fkv_world.Runs.{World, run}
use Rattle.law_refine.specs.Below.fkv_world.World.{Event, Now, seat_at}
use Rattle.law_refine.specs.Below.law_world.Guarded.Shows.{IsOpened}
use Rattle.law_log.specs.Trace.{IsIn}
use Rattle.law_commit.specs.Accepted.{point}
use Rattle.law_commit.specs.BegunCommits.{BegunCommit, life_begun}
use Rattle.law_commit.specs.Cuts.{ShowCuts, word_now}
use Rattle.law_commit.specs.Floor.Stands.{OpensSeen}
use Rattle.law_commit.specs.PhaseStores.{phase_at}
use Rattle.law_commit.specs.PhaseVersions.{phase_version}
use Rattle.law_commit.specs.Ranks.{rank}
use Rattle.law_commit.specs.Versions.Requests.{AreUpdatesSo, AttemptsSo}

-- the rank of what the phase word says; where it says nothing, 0
abbrev pub rank_said : PhaseSaid → ℕ
rank_said Spoiled = 0
rank_said (Says phase version) = rank phase version.0

abbrev pub word_rank : Now → ℕ
word_rank n = rank_said (phase_said (phase_at n))

abbrev pub rank_now : World → List Event → ℕ
rank_now opening events = word_rank (run opening events).now

-- the ranks of wait-pending and of wait-flush of the commit of this number
abbrev pub pending_rank : ℕ → ℕ
pending_rank number = 5 * number + 3

abbrev pub flush_rank : ℕ → ℕ
flush_rank number = 5 * number + 4

-- a version later than this one
abbrev pub IsLater : ℕ → ℕ → Type 0
IsLater version its = version < its

-- Each update that waits or is attempted is of a later version than this one.
pub record HasNoneUpto (version : ℕ) (s : SessionState) : Type 0 where
  pub waiting : AreUpdatesSo (IsLater version) s.requests
  pub attempted : AttemptsSo (IsLater version) s s.step

-- The phase word says in-progress or wait-pending of this version.
abbrev pub SaysMovingTo : PhaseSaid → Version → Type 0
SaysMovingTo said version = (said ≡ Says InProgress version) ⊎ (said ≡ Says WaitPending version)

-- an update is of this version; or of the one before, as long as the phase word says so
abbrev pub IsOwnOrBefore : PhaseSaid → Version → ℕ → Type 0
IsOwnOrBefore said own its = (its ≡ own.0) ⊎ ((its + 1 ≡ own.0) × SaysMovingTo said own)

-- Each update that waits or is attempted is of the session's version; or of the one before, as long as the phase word says so.
pub record HasOwnOrBefore (said : PhaseSaid) (s : SessionState) : Type 0 where
  pub waiting : AreUpdatesSo (IsOwnOrBefore said s.seen.version) s.requests
  pub attempted : AttemptsSo (IsOwnOrBefore said s.seen.version) s s.step

-- while it is awake the session goes by a later version
abbrev pub IsLiveLater : ℕ → SessionState → Type 0
IsLiveLater version s = s.is_awake ≡ true → version < s.seen.version.0

-- A store was just opened at rest, as its sessions have seen. The keeper seeks the points of all its sessions.
pub record OpensQuiet (opening : World) (start : ℕ) : Type 0 where
  pub guarded : IsOpened opening.now start
  pub opened : IsOpenedWorld opening
  pub seen : OpensSeen opening.now
  pub sought : opening.now.keeper.seek.sessions ≡ opening.now.places.sessions

-- ---- in each life of such a store
-- the rank of the phase word never falls
abbrev pub RanksRise : Type 0
RanksRise = (opening : World) (start : ℕ) (events : List Event) (event : Event) → OpensQuiet opening start → rank_now opening events ≤ rank_now opening (event ∷ events)

-- from wait-pending of a commit on each live session goes by a later version
abbrev pub LiveAreLater : Type 0
LiveAreLater =
    (opening : World) (start : ℕ) (events : List Event) (version session : ℕ) (first its : SessionState) → OpensQuiet opening start → HasBecome opening events session first its
    → pending_rank version ≤ rank_now opening events → IsLiveLater version its

-- and one that has no update up to its version gets none any more
abbrev pub NoneComesBack : Type 0
NoneComesBack =
    (opening : World) (start : ℕ) (later before : List Event) (version session : ℕ) (first its next : SessionState) → OpensQuiet opening start → pending_rank version ≤ rank_now opening before
    → HasBecome opening before session first its → HasNoneUpto version its → HasBecome opening (later ++ before) session first next → HasNoneUpto version next

-- one whose owing word reads 0 in wait-pending has none
abbrev pub OwesNone : Type 0
OwesNone =
    (opening : World) (start : ℕ) (events : List Event) (version session : ℕ) (first its : SessionState) → OpensQuiet opening start → HasBecome opening events session first its
    → rank_now opening events ≡ pending_rank version → word_now opening events (owing_place (seat_at opening.now session)) ≡ 0 → HasNoneUpto version its

-- from wait-flush on no session has any
abbrev pub NoneIsLeft : Type 0
NoneIsLeft =
    (opening : World) (start : ℕ) (events : List Event) (version session : ℕ) (first its : SessionState) → OpensQuiet opening start → HasBecome opening events session first its
    → flush_rank version ≤ rank_now opening events → HasNoneUpto version its

-- so an update that waits is of its session's version, or of the one before
abbrev pub WaitsFromBefore : Type 0
WaitsFromBefore =
    (opening : World) (start : ℕ) (events : List Event) (session : ℕ) (first its : SessionState) → OpensQuiet opening start → HasBecome opening events session first its
    → HasOwnOrBefore (phase_said (phase_at (run opening events).now)) its

-- and as a session takes shares for what waits, each update that waits is of the version that the phase word says
abbrev pub LatchesAtItsVersion : Type 0
LatchesAtItsVersion =
    (opening : World) (start : ℕ) (events : List Event) (session : ℕ) (first its : SessionState) (cause : CatchCause) (i : ℕ) → OpensQuiet opening start → HasBecome opening events session first its
    → its.step ≡ CatchesUp cause → its.catching.step ≡ Latches i → AreUpdatesSo (λ version. version ≡ phase_version (run opening events).now.words) its.requests

-- ---- so of its points
-- a session's point of this version splits its effects: just those have a serial up to it that are of this version or an earlier one
abbrev pub PointSplitsAt : World → ℕ → ℕ → List Event → Type 0
PointSplitsAt opening session version events =
    (effect : Effect) → IsIn effect (run opening events).past.history → effect.entry.session ≡ session → nat_le effect.entry.serial.0 (point opening events session version) ≡ nat_le effect.version.0 version

-- from wait-pending of a commit on a session's point of its number stays, whether it sleeps or not
abbrev pub PointsStay : Type 0
PointsStay =
    (opening : World) (start : ℕ) (later before : List Event) (version session : ℕ) (first its : SessionState) → OpensQuiet opening start → pending_rank version ≤ rank_now opening before
    → HasBecome opening before session first its → point opening (later ++ before) session version ≡ point opening before session version

-- and splits its effects
abbrev pub PointsAlwaysSplit : Type 0
PointsAlwaysSplit =
    (opening : World) (start : ℕ) (events : List Event) (version session : ℕ) (first its : SessionState) → OpensQuiet opening start → HasBecome opening events session first its
    → pending_rank version ≤ rank_now opening events → PointSplitsAt opening session version events

-- Each commit that has begun in a life, with the opening's, has come to wait-flush. So all of this holds of its number, at each later moment.
abbrev pub BegunHaveFlushed : Type 0
BegunHaveFlushed =
    (opening : World) (start : ℕ) (events : List Event) (c : BegunCommit) → OpensQuiet opening start → IsIn c (life_begun opening events) → flush_rank c.number.0 ≤ rank_now opening events

-- ---- what a session's two cut words show of a version: the first of its parity, and the other
-- The words of a session that sleeps since this version: one is its cut at the point, and the other that of the version before, at no later serial.
pub record SleptAt (version point own_word before_word : ℕ) : Type 0 where
  pub serial : ℕ
  pub low : serial ≤ point
  pub own : own_word ≡ cut_at point version
  pub before : before_word ≡ cut_at serial (version - 1)

-- The first word is the cut of the version at the point; or the session sleeps since an earlier version, whose cut one of the words is. Then its
-- point is that of the version before.
pub data ShowsPoint (version before point first other : ℕ) : Type 0 where
  SaysFirst : first ≡ cut_at point version → ShowsPoint version before point first other
  SleepsSince : (at : ℕ) → at < version → before ≡ point → SleptAt at point first other ⊎ SleptAt at point other first → ShowsPoint version before point first other

-- in wait-pending they show the point of the commit's number
abbrev pub CutsShowPoints : Type 0
CutsShowPoints =
    (opening : World) (start : ℕ) (events : List Event) (version session : ℕ) (first its : SessionState) → OpensQuiet opening start → ShowCuts opening.now → HasBecome opening events session first its
    → rank_now opening events ≡ pending_rank version
    → ShowsPoint version (point opening events session (version - 1)) (point opening events session version) (word_now opening events (session_place session (cut_of version))) (word_now opening events (session_place session (other_cut_of version)))
