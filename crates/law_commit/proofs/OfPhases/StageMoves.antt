-- What a step does to the stage of a commit: which phase is stored, by whom, and which action is put.
use Rattle.std.specs.Prelude.{◌≡◌, ◌⊎◌, ℕ, Bool, true, false, List, Option, Some, slice_get}
use Rattle.fkv_base.specs.declared.commits.CommitKind.{CommitKind}
use Rattle.fkv_base.specs.declared.numbers.Version.{Version}
use Rattle.fkv_base.specs.declared.phases.Phase.{Phase}
use Rattle.fkv_plane.specs.declared.actions.Action.{Action}
use Rattle.fkv_plane.specs.declared.actions.Action.TheVariants as act
use Rattle.fkv_plane.specs.declared.asks.Ask.TheVariants.{Put}
use Rattle.fkv_plane.specs.Asked.{reply_to, words_after}
use Rattle.law_refine.specs.Below.fkv_keeper.KeeperTold.{KeeperTold}
use Rattle.law_refine.specs.Below.fkv_keeper.TheKeeping.{Keeping}
use Rattle.law_refine.specs.Below.fkv_keeper.TheKeeping.TheVariants.{Starts, Seeks, Finishes}
use Rattle.law_refine.specs.Below.fkv_keeper.Keeping.{KeeperState, commit_asked, keeper_ask, keeper_called, keeper_next, turn_asked}
use Rattle.law_refine.specs.Below.fkv_session.Sessions.{SessionState}
use Rattle.law_refine.specs.Below.fkv_world.Moves.{keeper_gets}
use Rattle.law_refine.specs.Below.fkv_world.World.{Now, keeper_asked}
use Rattle.law_refine.proofs.Footprint.Commits.{finish_stores, seek_stores, start_stores}
use Rattle.law_refine.proofs.Footprint.Keepers.{keeper_stores}
use Rattle.law_commit.specs.Phases.Staged.{KeeperAt, Stage, StageAfter, keeper_hand, keeping_moves, keeping_number, session_hand, stage_run}
use Rattle.law_commit.proofs.OfPhases.KeeperHands.{PutsAt}

-- ---- what a reply does
-- no phase is stored
pub record Kept (n : Now) (number next : Version) (stage after : Stage) : Type 0 where
  pub version : next ≡ number
  pub same : after ≡ stage
  pub stores : keeper_stores n.keeper n.keeper.step ≡ false

-- the keeper stores a phase of its own
abbrev pub OwnStore : KeeperState → Keeping → Type 0
OwnStore s Starts = start_stores s.start.step ≡ true
OwnStore s Seeks = seek_stores s.seek.step ≡ true
OwnStore s Finishes = finish_stores s.finish.step ≡ true
OwnStore s step = ⊥

pub record Stored (n : Now) (number next : Version) (stage after : Stage) : Type 0 where
  pub own : OwnStore n.keeper n.keeper.step
  pub version : next ≡ keeping_number number n.keeper n.keeper.step
  pub moves : after ≡ keeping_moves stage n.keeper n.keeper.step

-- the action that is out runs, in this hand
pub record Ran (number next : Version) (stage after : Stage) (hand : Option Action) : Type 0 where
  pub version : next ≡ number
  pub runs : after ≡ stage_run stage
  pub its : Phase
  pub its_version : Version
  pub has : hand ≡ Some (act.Phase its its_version)

abbrev pub Replied : Now → Version → Version → Stage → Stage → Type 0
Replied n number next stage after = Kept n number next stage after ⊎ (Stored n number next stage after ⊎ Ran number next stage after (keeper_hand n.keeper))

-- ---- and what goes with it in the same step
-- nothing for a commit: the keeper has replied, or takes an action
pub record Plain (n : Now) (m its : KeeperState) (number next : Version) (stage after : Stage) : Type 0 where
  pub version : next ≡ number
  pub same : after ≡ stage
  pub keeper : (its ≡ m) ⊎ ((found : Option Action) × (its ≡ keeper_gets n.shape n.places m found))
  pub unput : (slot : ℕ) (action : Action) → keeper_ask n.shape n.places m ≡ Put slot action → ⊥

-- the keeper puts an action
pub record Putting (n : Now) (granted : Bool) (m its : KeeperState) (number next : Version) (stage after : Stage) : Type 0 where
  pub slot : ℕ
  pub action : Action
  pub asks : keeper_ask n.shape n.places m ≡ Put slot action
  pub version : next ≡ number
  pub moves : after ≡ keeping_moves stage m m.step
  pub keeper : its ≡ keeper_next n.shape n.places m 0 granted
  pub puts : PutsAt {A = KeeperTold} number stage after (Put slot action)

-- ---- a step of the keeper
-- it asks nothing of a word
pub record Aside (n : Now) (done : Bool) (read : List ℕ) (its : KeeperState) (number next : Version) (stage after : Stage) : Type 0 where
  pub version : next ≡ number
  pub same : after ≡ stage
  pub keeper : (its ≡ n.keeper) ⊎ (its ≡ keeper_called n.shape n.places n.keeper done read)

pub record Onto (n : Now) (granted : Bool) (its : KeeperState) (words : List ℕ) (number next : Version) (stage after : Stage) : Type 0 where
  -- where its reply leads
  pub led : KeeperState
  pub is_led : led ≡ keeper_next n.shape n.places n.keeper (reply_to n.words (keeper_ask n.shape n.places n.keeper)) granted
  pub words_are : words ≡ words_after n.words (keeper_ask n.shape n.places n.keeper)
  pub between : Version
  pub at : Stage
  pub replied : Replied n number between stage at
  pub keeper : KeeperAt between at led
  pub settled : Plain n led its between next at after ⊎ Putting n granted led its between next at after

pub record KeeperOn (n : Now) (number : Version) (stage : Stage) (granted done : Bool) (read : List ℕ) (after : Now) : Type 0 where
  pub on : StageAfter number stage after
  pub how : Aside n done read after.keeper number on.its_number stage on.its_stage ⊎ Onto n granted after.keeper after.words number on.its_number stage on.its_stage

-- ---- a step of a session: no phase is stored, or it runs the action that is out
pub record SameStage (number next : Version) (stage after : Stage) : Type 0 where
  pub version : next ≡ number
  pub same : after ≡ stage

pub record SessionOn (number : Version) (stage : Stage) (s : SessionState) (n after : Now) : Type 0 where
  pub on : StageAfter number stage after
  pub how : SameStage number on.its_number stage on.its_stage ⊎ Ran number on.its_number stage on.its_stage (session_hand s)
  pub keeper : after.keeper ≡ n.keeper

-- ---- an event of a life
-- the keeper is as it was, or behind a call of the device, or a call of its own begins
abbrev pub QuietKeeper : Now → KeeperState → Type 0
QuietKeeper n its =
    (its ≡ n.keeper) ⊎ (((done : Bool) × (read : List ℕ) × (its ≡ keeper_called n.shape n.places n.keeper done read)) ⊎ (((kind : CommitKind) × (its ≡ keeper_asked n.keeper (commit_asked n.keeper kind))) ⊎ (its ≡ keeper_asked n.keeper (turn_asked n.keeper))))

pub record Quietly (n : Now) (its : KeeperState) (number next : Version) (stage after : Stage) : Type 0 where
  pub same : SameStage number next stage after
  pub keeper : QuietKeeper n its

-- a session runs the action that is out
pub record RunBySession (n : Now) (its : KeeperState) (number next : Version) (stage after : Stage) : Type 0 where
  pub session : ℕ
  pub s : SessionState
  pub got : slice_get n.sessions session ≡ Some s
  pub ran : Ran number next stage after (session_hand s)
  pub keeper : its ≡ n.keeper

-- the keeper is led on
pub record LedOn (n : Now) (its : KeeperState) (words : List ℕ) (number next : Version) (stage after : Stage) : Type 0 where
  pub granted : Bool
  pub onto : Onto n granted its words number next stage after

pub record EventOn (n : Now) (number : Version) (stage : Stage) (after : Now) : Type 0 where
  pub on : StageAfter number stage after
  pub how : Quietly n after.keeper number on.its_number stage on.its_stage ⊎ (RunBySession n after.keeper number on.its_number stage on.its_stage ⊎ LedOn n after.keeper after.words number on.its_number stage on.its_stage)
