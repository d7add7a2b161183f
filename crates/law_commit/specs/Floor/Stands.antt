-- How low the views of live sessions may be, in each life.
use Rattle.std.specs.Prelude.{◌≡◌, ◌+◌, ◌*◌, ◌≤◌, ⊤, ℕ, true, List, Some, slice_get}
use Rattle.fkv_base.specs.declared.numbers.Version.{Version}
use Rattle.fkv_base.specs.declared.phases.Phase.TheVariants.{Rest}
use Rattle.law_refine.specs.Below.fkv_commit.Commit.{Commit}
use Rattle.fkv_epoch.specs.EpochWorld.{safe_of}
use Rattle.law_refine.specs.Below.fkv_keeper.TheKeeping.{Keeping}
use Rattle.law_refine.specs.Below.fkv_keeper.TheKeeping.TheVariants.{Finishes, Writes}
use Rattle.law_refine.specs.Below.fkv_keeper.Keeping.{come_to}
use Rattle.law_refine.specs.Below.fkv_session.Sessions.{SessionState}
use Rattle.law_refine.specs.Below.fkv_world.Opened.{HasBecome, IsOpenedWorld}
use Rattle.law_refine.specs.Below.fkv_world.Runs.{World, run}
use Rattle.law_refine.specs.Below.fkv_world.World.{Event, Now}
use Rattle.law_refine.specs.Below.law_world.Guarded.Shows.{IsOpened}
use Rattle.law_paper.specs.Apart.{IsBetween}
use Rattle.law_paper.specs.Phases as paper
use Rattle.law_commit.specs.Phases.Staged.{DefersPending, DefersProgress, Flushes, IsStaged, OpensAtRest, Pends, Prepares, Progresses, Rests, Stage}
use Rattle.law_commit.specs.Views.{View, rank_of, sight_of}

-- how far a stage is behind rest of its commit's version
abbrev pub stage_number : Stage → ℕ
stage_number Rests = 0
stage_number Prepares = 1
stage_number DefersProgress = 1
stage_number Progresses = 2
stage_number DefersPending = 2
stage_number Pends = 3
stage_number Flushes = 4

-- The rank of a view is no higher than the phase word's, and one below its commit's rest at the lowest. From in-progress on it is no lower than prepare, and
-- from wait-pending on no lower than in-progress.
pub record HasFloor (number : Version) (stage : Stage) (its : View) : Type 0 where
  pub low : rank_of its ≤ 5 * number.0 + stage_number stage
  pub rest : 5 * number.0 ≤ rank_of its + 1
  pub in_progress : 2 ≤ stage_number stage → 5 * number.0 + 1 ≤ rank_of its
  pub wait_pending : 3 ≤ stage_number stage → 5 * number.0 + 2 ≤ rank_of its

-- the keeper writes the commit in hand, or finishes it
abbrev pub IsWritten : Keeping → Type 0
IsWritten Writes = ⊤
IsWritten Finishes = ⊤
IsWritten step = ⊥

-- a view shows wait-flush of this commit, and a tail at or above its end
pub record HasSeenEnd (number : Version) (c : Commit) (its : View) : Type 0 where
  pub rank : 5 * number.0 + 4 ≤ rank_of its
  pub tail : c.end.0 ≤ its.tail

-- What a view shows of the commit in hand: from in-progress on a tail at or above its first address. Once its points are taken and the epoch of its last
-- arming is safe, and so as it is written, the view has seen its end.
pub record SeesCommit (n : Now) (number : Version) (stage : Stage) (c : Commit) (its : View) : Type 0 where
  pub first : 2 ≤ stage_number stage → c.first.0 ≤ its.tail
  pub ending : n.keeper.has_points ≡ true → c.epoch ≤ safe_of n.words → HasSeenEnd number c its
  pub written : IsWritten (come_to n.keeper) → HasSeenEnd number c its

-- At some stage the view of each live session has its floor, and shows so much of the commit in hand.
pub record FloorStands (opening : World) (events : List Event) : Type 0 where
  pub number : Version
  pub stage : Stage
  pub staged : IsStaged (run opening events).now number stage
  pub floor : (session : ℕ) (first its : SessionState) → HasBecome opening events session first its → its.is_awake ≡ true → HasFloor number stage (sight_of opening events session).view
  pub commit : (session : ℕ) (first its : SessionState) (c : Commit) → HasBecome opening events session first its → its.is_awake ≡ true → (run opening events).now.keeper.commit ≡ Some c
      → SeesCommit (run opening events).now number stage c (sight_of opening events session).view

-- As a life begins the store rests, and each session has seen rest.
pub record OpensSeen (n : Now) : Type 0 where
  pub rests : OpensAtRest n
  pub seen : (session : ℕ) (first : SessionState) → slice_get n.sessions session ≡ Some first → first.seen.phase ≡ Rest

-- so it is in each life of a store that opened so
abbrev pub FloorAlwaysStands : Type 0
FloorAlwaysStands = (opening : World) (start : ℕ) (events : List Event) → IsOpened opening.now start → IsOpenedWorld opening → OpensSeen opening.now → FloorStands opening events

-- If one goes by in-progress or wait-pending of a version, the other has come to prepare before it, and no further than its wait-flush.
abbrev pub AreNear : View → View → Type 0
AreNear one other = (version : ℕ) → IsBetween (rank_of one) version → (5 * version ≤ rank_of other + 4) × (rank_of other + 1 ≤ 5 * version)

-- so it is with any two live sessions
abbrev pub LiveViewsAreNear : World → List Event → Type 0
LiveViewsAreNear opening events =
    (session other : ℕ) (first its next also : SessionState) → HasBecome opening events session first its → its.is_awake ≡ true → HasBecome opening events other next also → also.is_awake ≡ true
    → AreNear (sight_of opening events session).view (sight_of opening events other).view

abbrev pub ViewsAreNear : Type 0
ViewsAreNear = (opening : World) (start : ℕ) (events : List Event) → IsOpened opening.now start → IsOpenedWorld opening → OpensSeen opening.now → LiveViewsAreNear opening events

-- what is shown on paper of phases: a run of enabled events is sound, and the views of live sessions have their floor
abbrev pub PaperIsSound : Type 0
PaperIsSound = (opening : paper.Phasing) (events : List paper.PhaseEvent) → paper.IsSound opening → paper.AreEnabled opening events → paper.IsSound (paper.phase_run opening events)

abbrev pub PaperHasFloor : Type 0
PaperHasFloor = (opening : paper.Phasing) (events : List paper.PhaseEvent) → paper.IsSound opening → paper.AreEnabled opening events → paper.HaveFloor (paper.phase_run opening events)
