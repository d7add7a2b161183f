-- What a session or the keeper is about to run: the action of a slot that it has claimed, with the epoch at which the slot was armed.
use Rattle.std.specs.Prelude.{◌≡◌, ◌≤◌, ℕ, List, Option, Some, None, slice_get}
use Rattle.fkv_epoch.specs.declared.claiming.Claiming.{Claiming}
use Rattle.fkv_epoch.specs.declared.claiming.Claiming.TheVariants as claim
use Rattle.fkv_epoch.specs.EpochWorld.{Armed, safe_of}
use Rattle.fkv_epoch.specs.Once.{Among}
use Rattle.law_refine.specs.Below.fkv_maintain.TheMaintaining.{Maintaining}
use Rattle.law_refine.specs.Below.fkv_maintain.TheMaintaining.TheVariants as maintain
use Rattle.law_refine.specs.Below.fkv_maintain.Maintaining.{MaintainState}
use Rattle.law_refine.specs.Below.fkv_keeper.TheKeeping.{Keeping}
use Rattle.law_refine.specs.Below.fkv_keeper.TheKeeping.TheVariants.{Maintains}
use Rattle.law_refine.specs.Below.fkv_keeper.Keeping.{KeeperState}
use Rattle.law_refine.specs.Below.fkv_session.OwnTurning.{OwnTurning}
use Rattle.law_refine.specs.Below.fkv_session.OwnTurning.TheVariants as turning
use Rattle.law_refine.specs.Below.fkv_session.Sitting.{Sitting}
use Rattle.law_refine.specs.Below.fkv_session.Sitting.TheVariants.{Turns}
use Rattle.law_refine.specs.Below.fkv_session.OwnTurns.{OwnTurnState}
use Rattle.law_refine.specs.Below.fkv_session.Sessions.{SessionState}
use Rattle.law_refine.specs.Below.fkv_world.Runs.{World, run}
use Rattle.law_refine.specs.Below.fkv_world.World.{Event}
use Rattle.law_refine.specs.Below.law_world.Guarded.Shows as guard
use Rattle.law_refine.specs.Below.law_world.Guarded.Shows.{seen_by_guard}

abbrev pub claim_runs : Claiming → Option Armed
claim_runs (claim.Runs slot epoch safe action) = Some (record { slot = slot; epoch = epoch; action = action })
claim_runs step = None

abbrev pub turn_runs : OwnTurnState → OwnTurning → Option Armed
turn_runs o turning.Claims = claim_runs o.claiming
turn_runs o step = None

abbrev pub sitting_runs : SessionState → Sitting → Option Armed
sitting_runs s (Turns its) = turn_runs s.own_turn s.own_turn.step
sitting_runs s step = None

abbrev pub maintain_runs : MaintainState → Maintaining → Option Armed
maintain_runs m maintain.Claims = claim_runs m.claiming
maintain_runs m step = None

abbrev pub keeping_runs : KeeperState → Keeping → Option Armed
keeping_runs s Maintains = maintain_runs s.maintain s.maintain.step
keeping_runs s step = None

-- it was armed there at that epoch, which is safe
pub record IsSafeRun (opening : World) (start : ℕ) (events : List Event) (its : Armed) : Type 0 where
  pub safe : its.epoch ≤ safe_of (run opening events).now.words
  pub armed : Among its (seen_by_guard opening start events).past.armed

abbrev pub SessionsRunSafely : Type 0
SessionsRunSafely =
    (opening : World) (start : ℕ) (events : List Event) (session : ℕ) (s : SessionState) (its : Armed) → guard.IsOpened opening.now start → slice_get (run opening events).now.sessions session ≡ Some s
    → sitting_runs s s.step ≡ Some its → IsSafeRun opening start events its

abbrev pub KeeperRunsSafely : Type 0
KeeperRunsSafely = (opening : World) (start : ℕ) (events : List Event) (its : Armed) → guard.IsOpened opening.now start → keeping_runs (run opening events).now.keeper (run opening events).now.keeper.step ≡ Some its → IsSafeRun opening start events its
