-- How far the store has come with the commit that is next: what the phase word says, which action is out that is to store a phase, and what the keeper is at.
use Rattle.std.specs.Prelude.{◌≡◌, ◌⊎◌, ◌+◌, ◌<◌, ◌≤◌, ⊤, ℕ, Bool, true, false, List, Option, Some, None, slice_get}
use Rattle.fkv_base.specs.Limits.{last_version}
use Rattle.fkv_base.specs.declared.numbers.Version.{Version}
use Rattle.fkv_base.specs.declared.phases.Phase.{Phase}
use Rattle.fkv_base.specs.declared.phases.Phase.TheVariants.{Rest, Prepare, InProgress, WaitPending, WaitFlush}
use Rattle.fkv_words.specs.declared.phase_words.PhaseSaid.TheVariants.{Says}
use Rattle.fkv_words.specs.PhaseWords.{phase_said}
use Rattle.fkv_plane.specs.declared.actions.Action.{Action}
use Rattle.fkv_plane.specs.declared.actions.Action.TheVariants as act
use Rattle.fkv_plane.specs.Passing.{is_done}
use Rattle.fkv_plane.specs.Plane.{action_at}
use Rattle.fkv_epoch.specs.declared.claiming.Claiming.{Claiming}
use Rattle.fkv_epoch.specs.declared.claiming.Claiming.TheVariants as claim
use Rattle.fkv_epoch.specs.Claiming.{phase_stored}
use Rattle.law_refine.specs.Below.fkv_commit.Commit.{Commit}
use Rattle.law_refine.specs.Below.fkv_commit.Deferred.{Deferred}
use Rattle.law_refine.specs.Below.fkv_commit.Deferred.TheVariants.{EntersPhase, ShowsReadOnly}
use Rattle.law_refine.specs.Below.fkv_commit.DeferAnswer.TheVariants.{Armed}
use Rattle.law_refine.specs.Below.fkv_commit.TheDeferring.{Deferring}
use Rattle.law_refine.specs.Below.fkv_commit.TheDeferring.TheVariants as defer
use Rattle.law_refine.specs.Below.fkv_commit.EnterAnswer.TheVariants.{Entered}
use Rattle.law_refine.specs.Below.fkv_commit.TheEntering.{Entering}
use Rattle.law_refine.specs.Below.fkv_commit.TheEntering.TheVariants as enter
use Rattle.law_refine.specs.Below.fkv_commit.TheFinishing.{Finishing}
use Rattle.law_refine.specs.Below.fkv_commit.TheFinishing.TheVariants as finish
use Rattle.law_refine.specs.Below.fkv_commit.TheSeeking.{Seeking}
use Rattle.law_refine.specs.Below.fkv_commit.TheSeeking.TheVariants as seek
use Rattle.law_refine.specs.Below.fkv_commit.StartAnswer.TheVariants.{Begun}
use Rattle.law_refine.specs.Below.fkv_commit.TheStarting.{Starting}
use Rattle.law_refine.specs.Below.fkv_commit.TheStarting.TheVariants as start
use Rattle.law_refine.specs.Below.fkv_commit.Commits.{version_after}
use Rattle.law_refine.specs.Below.fkv_commit.Deferring.{defer_ask}
use Rattle.law_refine.specs.Below.fkv_commit.Entering.{EnterState}
use Rattle.law_refine.specs.Below.fkv_commit.Seeking.{SeekState}
use Rattle.law_refine.specs.Below.fkv_commit.Starting.{StartState}
use Rattle.law_refine.specs.Below.fkv_keeper.TheKeeping.{Keeping}
use Rattle.law_refine.specs.Below.fkv_keeper.TheKeeping.TheVariants.{Starts, Maintains, Enters, Seeks, Waits, Writes, Finishes}
use Rattle.law_refine.specs.Below.fkv_keeper.Keeping.{KeeperState}
use Rattle.law_refine.specs.Below.fkv_maintain.TheMaintaining.{Maintaining}
use Rattle.law_refine.specs.Below.fkv_maintain.TheMaintaining.TheVariants as maintain
use Rattle.law_refine.specs.Below.fkv_maintain.Maintaining.{MaintainState}
use Rattle.law_refine.specs.Below.fkv_session.OwnTurning.{OwnTurning}
use Rattle.law_refine.specs.Below.fkv_session.OwnTurning.TheVariants as turning
use Rattle.law_refine.specs.Below.fkv_session.Sitting.{Sitting}
use Rattle.law_refine.specs.Below.fkv_session.Sitting.TheVariants.{Turns}
use Rattle.law_refine.specs.Below.fkv_session.OwnTurns.{OwnTurnState}
use Rattle.law_refine.specs.Below.fkv_session.Sessions.{SessionState}
use Rattle.law_refine.specs.Below.fkv_world.World.{Now}
use Rattle.law_commit.specs.PhaseStores.{phase_at}

-- ---- the stages of a commit
pub data Stage : Type 0 where
  Rests : Stage
  -- prepare is stored; then in-progress is deferred, and its action is out
  Prepares : Stage
  DefersProgress : Stage
  -- in-progress is stored; then wait-pending is deferred
  Progresses : Stage
  DefersPending : Stage
  -- wait-pending is stored, and wait-flush
  Pends : Stage
  Flushes : Stage

abbrev pub stage_phase : Stage → Phase
stage_phase Rests = Rest
stage_phase Prepares = Prepare
stage_phase DefersProgress = Prepare
stage_phase Progresses = InProgress
stage_phase DefersPending = InProgress
stage_phase Pends = WaitPending
stage_phase Flushes = WaitFlush

-- up to prepare the version is the commit's number
abbrev pub stage_version : Version → Stage → Version
stage_version number Rests = number
stage_version number Prepares = number
stage_version number DefersProgress = number
stage_version number stage = version_after number

abbrev pub stage_word : Version → Stage → ℕ
stage_word number stage = phase_stored (stage_phase stage) (stage_version number stage)

-- the action that is out
abbrev pub stage_out : Version → Stage → Option Action
stage_out number DefersProgress = Some (act.Phase InProgress (version_after number))
stage_out number DefersPending = Some (act.Phase WaitPending (version_after number))
stage_out number stage = None

-- no phase is stored for the commit yet
abbrev pub is_resting : Stage → Bool
is_resting Rests = true
is_resting stage = false

-- wait-pending isn't deferred yet
abbrev pub is_early : Stage → Bool
is_early DefersPending = false
is_early Pends = false
is_early Flushes = false
is_early stage = true

-- where the action that is out leads as it runs
abbrev pub stage_run : Stage → Stage
stage_run DefersProgress = Progresses
stage_run DefersPending = Pends
stage_run stage = stage

-- ---- where an action may be: in a drain slot, with a session that has claimed it in its turn, or with the keeper
pub data Holder : Type 0 where
  InSlot : ℕ → Holder
  WithSession : ℕ → Holder
  WithKeeper : Holder

abbrev pub claim_hand : Claiming → Option Action
claim_hand (claim.Runs slot epoch safe action) = Some action
claim_hand step = None

abbrev pub turn_hand : OwnTurnState → OwnTurning → Option Action
turn_hand o turning.Claims = claim_hand o.claiming
turn_hand o step = None

abbrev pub sitting_hand : SessionState → Sitting → Option Action
sitting_hand s (Turns its) = turn_hand s.own_turn s.own_turn.step
sitting_hand s step = None

abbrev pub session_hand : SessionState → Option Action
session_hand s = sitting_hand s s.step

abbrev pub hand_found : Option SessionState → Option Action
hand_found None = None
hand_found (Some s) = session_hand s

abbrev pub maintain_hand : MaintainState → Maintaining → Option Action
maintain_hand m maintain.Claims = claim_hand m.claiming
maintain_hand m step = None

abbrev pub keeping_hand : KeeperState → Keeping → Option Action
keeping_hand s Maintains = maintain_hand s.maintain s.maintain.step
keeping_hand s step = None

abbrev pub keeper_hand : KeeperState → Option Action
keeper_hand s = keeping_hand s s.step

-- of these only one that stores a phase counts
abbrev pub phase_in : Option Action → Option Action
phase_in (Some (act.Phase phase version)) = Some (act.Phase phase version)
phase_in found = None

abbrev pub held_at : List (Option Action) → List SessionState → KeeperState → Holder → Option Action
held_at actions sessions keeper (InSlot slot) = phase_in (action_at actions slot)
held_at actions sessions keeper (WithSession session) = phase_in (hand_found (slice_get sessions session))
held_at actions sessions keeper WithKeeper = phase_in (keeper_hand keeper)

abbrev pub held : Now → Holder → Option Action
held n holder = held_at n.actions n.sessions n.keeper holder

-- No action that stores a phase is anywhere but this one, and it is in one place at most.
pub record OnlyOut (out : Holder → Option Action) (its : Option Action) : Type 0 where
  pub its_own : (holder : Holder) (action : Action) → out holder ≡ Some action → Some action ≡ its
  pub once : (one other : Holder) (a b : Action) → out one ≡ Some a → out other ≡ Some b → one ≡ other

-- ---- what the keeper is at
-- a phase is deferred: its action is put in the stage before, and is out behind that, until it has run
abbrev pub DefersAt : Deferred → Stage → Stage → Stage → Stage → Deferring → Type 0
DefersAt its before out after stage (defer.Raises other) = (other ≡ its) × (stage ≡ before)
DefersAt its before out after stage (defer.Puts other slot epoch) = (other ≡ its) × (stage ≡ before)
DefersAt its before out after stage (defer.Arms epoch) = (stage ≡ out) ⊎ (stage ≡ after)
DefersAt its before out after stage (defer.Ended (Armed epoch)) = (stage ≡ out) ⊎ (stage ≡ after)
DefersAt its before out after stage step = stage ≡ before

-- what is deferred stores no phase
abbrev pub IsReadOnly : Deferred → Type 0
IsReadOnly (EntersPhase phase version) = ⊥
IsReadOnly (ShowsReadOnly to) = ⊤

abbrev pub DefersReadOnly : Deferring → Type 0
DefersReadOnly (defer.Raises its) = IsReadOnly its
DefersReadOnly (defer.Puts its slot epoch) = IsReadOnly its
DefersReadOnly step = ⊤

abbrev pub InProgressDefers : Version → Stage → Deferring → Type 0
InProgressDefers number stage step = DefersAt (EntersPhase InProgress (version_after number)) Prepares DefersProgress Progresses stage step

abbrev pub WaitPendingDefers : Version → Stage → Deferring → Type 0
WaitPendingDefers number stage step = DefersAt (EntersPhase WaitPending (version_after number)) Progresses DefersPending Pends stage step

-- it starts a commit of this number
pub record StartsIt (number its : Version) : Type 0 where
  pub same : its ≡ number
  pub fits : number.0 < last_version

abbrev pub StartAt : Version → Stage → StartState → Starting → Type 0
StartAt number stage s (start.Ended (Begun its first)) = StartsIt number its × ((stage ≡ DefersProgress) ⊎ (stage ≡ Progresses))
StartAt number stage s (start.Ended its) = ⊤
StartAt number stage s start.LoadsPhase = ⊤
StartAt number stage s (start.Seeks its) = StartsIt number its × (stage ≡ Rests) × (s.defer.step ≡ defer.Seeks)
StartAt number stage s (start.StoresPrepare its) = StartsIt number its × (stage ≡ Rests) × (s.defer.step ≡ defer.Holds)
StartAt number stage s (start.LoadsTail its) = StartsIt number its × (stage ≡ Prepares) × (s.defer.step ≡ defer.Holds)
StartAt number stage s (start.Defers its first) = StartsIt number its × InProgressDefers number stage s.defer.step

abbrev pub EnterAt : Version → Stage → EnterState → Entering → Type 0
EnterAt number stage s (enter.Ended Entered) = (stage ≡ DefersPending) ⊎ (stage ≡ Pends)
EnterAt number stage s enter.Defers = WaitPendingDefers number stage s.defer.step × (is_done (defer_ask s.defer) ≡ true → stage ≡ Progresses)
EnterAt number stage s enter.Seeks = (stage ≡ Progresses) × (s.defer.step ≡ defer.Seeks)
EnterAt number stage s step = stage ≡ Progresses

abbrev pub SeekAt : Version → Stage → SeekState → Seeking → Type 0
SeekAt number stage s (seek.Ended its) = ⊤
SeekAt number stage s (seek.LoadsOwing session) = stage ≡ Pends
SeekAt number stage s seek.SeeksSlot = (stage ≡ Pends) × (s.defer.step ≡ defer.Seeks)
SeekAt number stage s seek.LoadsTail = (stage ≡ Flushes) × (s.defer.step ≡ defer.Holds)
SeekAt number stage s (seek.RaisesReadOnly end) = (stage ≡ Flushes) × (s.defer.step ≡ defer.Holds)
SeekAt number stage s (seek.Defers end) = (stage ≡ Flushes) × DefersReadOnly s.defer.step
SeekAt number stage s step = (stage ≡ Pends) × (s.defer.step ≡ defer.Holds)

abbrev pub FinishAt : Stage → Finishing → Type 0
FinishAt stage (finish.Ended its) = ⊥
FinishAt stage step = stage ≡ Flushes

abbrev pub StepAt : Version → Stage → KeeperState → Keeping → Type 0
StepAt number stage s Starts = StartAt number stage s.start s.start.step
StepAt number stage s Enters = (s.enter.number ≡ number) × EnterAt number stage s.enter s.enter.step
StepAt number stage s Seeks = (s.seek.number ≡ number) × SeekAt number stage s.seek s.seek.step
StepAt number stage s Waits = (stage ≡ Flushes) × (s.rests ≡ false)
StepAt number stage s Writes = (stage ≡ Flushes) × (s.rests ≡ false)
StepAt number stage s Finishes = (s.finish.number ≡ number) × FinishAt stage s.finish.step × ((c : Commit) × (s.commit ≡ Some c)) × (s.rests ≡ false)
StepAt number stage s step = ⊤

-- but for the part that defers wait-pending, the keeper knows whether it is deferred
abbrev pub EarlyAt : Stage → KeeperState → Keeping → Type 0
EarlyAt stage s Enters = ⊤
EarlyAt stage s step = s.has_entered ≡ false → is_early stage ≡ true

-- A commit in hand has the number that is next, behind the newest finished one's. Some phase is stored for it, and where its writes rest, wait-flush.
pub record HasInHand (number : Version) (stage : Stage) (s : KeeperState) : Type 0 where
  pub next : number.0 ≡ s.last.number.0 + 1
  pub hand : (c : Commit) → s.commit ≡ Some c → (c.number ≡ number) × (is_resting stage ≡ false)
  pub rests : s.rests ≡ true → stage ≡ Flushes

-- So far has the keeper come.
pub record KeeperAt (number : Version) (stage : Stage) (s : KeeperState) : Type 0 where
  pub has : HasInHand number stage s
  pub early : EarlyAt stage s s.step
  pub step : StepAt number stage s s.step

-- ---- where a reply leads: a phase is stored, or its action is put
abbrev pub defer_moves : Stage → Stage → Deferring → Stage
defer_moves stage out (defer.Puts its slot epoch) = out
defer_moves stage out step = stage

abbrev pub start_moves : Stage → StartState → Starting → Stage
start_moves stage s (start.StoresPrepare number) = Prepares
start_moves stage s (start.Defers number first) = defer_moves stage DefersProgress s.defer.step
start_moves stage s step = stage

abbrev pub enter_moves : Stage → EnterState → Entering → Stage
enter_moves stage s enter.Defers = defer_moves stage DefersPending s.defer.step
enter_moves stage s step = stage

abbrev pub seek_moves : Stage → Seeking → Stage
seek_moves stage seek.StoresWaitFlush = Flushes
seek_moves stage step = stage

abbrev pub finish_moves : Stage → Finishing → Stage
finish_moves stage finish.StoresRest = Rests
finish_moves stage step = stage

abbrev pub keeping_moves : Stage → KeeperState → Keeping → Stage
keeping_moves stage s Starts = start_moves stage s.start s.start.step
keeping_moves stage s Enters = enter_moves stage s.enter s.enter.step
keeping_moves stage s Seeks = seek_moves stage s.seek.step
keeping_moves stage s Finishes = finish_moves stage s.finish.step
keeping_moves stage s step = stage

-- a commit that is finished leaves the number behind its own
abbrev pub finish_number : Version → Finishing → Version
finish_number number finish.StoresRest = version_after number
finish_number number step = number

abbrev pub keeping_number : Version → KeeperState → Keeping → Version
keeping_number number s Finishes = finish_number number s.finish.step
keeping_number number s step = number

-- ---- of a life
-- The number that is next is a version that there is, and not the last where a phase is stored for it.
pub record FitsVersion (number : Version) (stage : Stage) : Type 0 where
  pub some : 0 < number.0
  pub low : number.0 ≤ last_version
  pub lower : is_resting stage ≡ false → number.0 < last_version

-- The world is at this stage of the commit of this number: so the phase word says, and so are the action that is out and the keeper.
pub record IsStaged (n : Now) (number : Version) (stage : Stage) : Type 0 where
  pub fits : FitsVersion number stage
  pub word : phase_said (phase_at n) ≡ Says (stage_phase stage) (stage_version number stage)
  pub out : OnlyOut (held n) (stage_out number stage)
  pub keeper : KeeperAt number stage n.keeper

-- it is at some stage
pub record HasStage (n : Now) : Type 0 where
  pub number : Version
  pub stage : Stage
  pub staged : IsStaged n number stage

-- Where a step leads. The version of the phase word never falls.
pub record StageAfter (number : Version) (stage : Stage) (after : Now) : Type 0 where
  pub its_number : Version
  pub its_stage : Stage
  pub staged : IsStaged after its_number its_stage
  pub rises : (stage_version number stage).0 ≤ (stage_version its_number its_stage).0

-- As a life begins the phase word says rest of the version behind the newest finished commit's number, and each session has seen that version.
pub record OpensAtRest (n : Now) : Type 0 where
  pub says : phase_said (phase_at n) ≡ Says Rest (record { 0 = n.keeper.last.number.0 + 1 })
  pub seen : (session : ℕ) (first : SessionState) → slice_get n.sessions session ≡ Some first → first.seen.version.0 ≡ n.keeper.last.number.0 + 1
