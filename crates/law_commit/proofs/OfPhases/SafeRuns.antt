-- What runs was armed at an epoch that is safe: its slot was claimed so.
use Rattle.std.proofs.Common.{◌≡◌, ◌≤◌, ◌∙◌, ℕ, List, ap, subst}
use Rattle.std.specs.Prelude.{Option, Some, slice_get}
use Rattle.fkv_epoch.specs.declared.claiming.Claiming.{Claiming}
use Rattle.fkv_epoch.specs.declared.claiming.Claiming.TheVariants as claim
use Rattle.fkv_epoch.specs.EpochWorld.{Armed, Claims, EpochMachine, safe_of}
use Rattle.law_refine.specs.Below.fkv_flush.GuardSeen.{LastSeen}
use Rattle.law_refine.specs.Below.fkv_flush.GuardWorld.{Actor, GuardWorld}
use Rattle.law_refine.proofs.Below.fkv_flush.Shown.{FitsMachine, machine_at}
use Rattle.law_refine.specs.Below.fkv_maintain.TheMaintaining.{Maintaining}
use Rattle.law_refine.specs.Below.fkv_maintain.TheMaintaining.TheVariants as maintain
use Rattle.law_refine.specs.Below.fkv_maintain.Maintaining.{MaintainState}
use Rattle.law_refine.specs.Below.fkv_keeper.TheKeeping.{Keeping}
use Rattle.law_refine.specs.Below.fkv_keeper.TheKeeping.TheVariants.{Maintains}
use Rattle.law_refine.specs.Below.fkv_keeper.Keeping.{KeeperState}
use Rattle.law_refine.specs.Below.fkv_session.OwnTurning.{OwnTurning}
use Rattle.law_refine.specs.Below.fkv_session.OwnTurning.TheVariants as turning
use Rattle.law_refine.specs.Below.fkv_session.Sitting.{Sitting}
use Rattle.law_refine.specs.Below.fkv_session.Sitting.TheVariants.{Turns}
use Rattle.law_refine.specs.Below.fkv_session.OwnTurns.{OwnTurnState}
use Rattle.law_refine.specs.Below.fkv_session.Sessions.{SessionState}
use Rattle.law_refine.specs.Below.fkv_world.Runs.{World, run}
use Rattle.law_refine.specs.Below.fkv_world.World.{Event}
use Rattle.law_refine.specs.Below.law_world.Guarded.Shows as guard
use Rattle.law_refine.specs.Below.law_world.Guarded.Shows.{Shows, seen_by_guard}
use Rattle.law_refine.specs.Below.law_world.GuardKeeper.KeeperShown.{keeping_machine}
use Rattle.law_refine.specs.Below.law_world.GuardKeeper.MaintainShown.{maintaining_machine}
use Rattle.law_refine.specs.Below.law_world.GuardSessions.OwnTurns.{claim_machine, own_turn_likeness_at}
use Rattle.law_refine.specs.Below.law_world.GuardSessions.Sessions.{sitting_likeness}
use Rattle.law_refine.proofs.Below.law_world.OfGuarded.Worlds.{life_shows}
use Rattle.law_commit.specs.Phases.Running.{IsSafeRun, KeeperRunsSafely, SessionsRunSafely, claim_runs, keeping_runs, maintain_runs, sitting_runs, turn_runs}

-- the guard's machine runs it too
record RunsIt (machine : EpochMachine) (its : Armed) : Type 0 where
  safe : ℕ
  is : machine ≡ Claims (claim.Runs its.slot its.epoch safe its.action)

armed_same : {x y : Armed} → ◌≡◌ {A = Option Armed} (Some x) (Some y) → x ≡ y
armed_same e = cc

claim_so : (step : Claiming) (machine : EpochMachine) (its : Armed) → machine ≡ Claims step → claim_runs step ≡ Some its → RunsIt machine its
claim_so (claim.Runs slot epoch safe action) machine its fits runs = record { safe = safe; is = fits ∙ ap (λ (x : Armed). Claims (claim.Runs x.slot x.epoch safe x.action)) (armed_same runs) }
claim_so step machine its fits runs = cc

turn_claims_so : (step : Claiming) (machine : EpochMachine) (its : Armed) → FitsMachine (claim_machine step) machine → claim_runs step ≡ Some its → RunsIt machine its
turn_claims_so (claim.Runs slot epoch safe action) machine its fits runs = claim_so (claim.Runs slot epoch safe action) machine its fits runs
turn_claims_so step machine its fits runs = cc

turn_so : (seen : LastSeen) (o : OwnTurnState) (step : OwnTurning) (machine : EpochMachine) (its : Armed) → FitsMachine (own_turn_likeness_at seen o step).machine machine → turn_runs o step ≡ Some its → RunsIt machine its
turn_so seen o turning.Claims machine its fits runs = turn_claims_so o.claiming machine its fits runs
turn_so seen o step machine its fits runs = cc

sitting_so : (s : SessionState) (step : Sitting) (machine : EpochMachine) (its : Armed) → FitsMachine (sitting_likeness s step).machine machine → sitting_runs s step ≡ Some its → RunsIt machine its
sitting_so s (Turns told) machine its fits runs = turn_so _ s.own_turn s.own_turn.step machine its fits runs
sitting_so s step machine its fits runs = cc

maintain_so : (m : MaintainState) (step : Maintaining) (machine : EpochMachine) (its : Armed) → FitsMachine (maintaining_machine m step) machine → maintain_runs m step ≡ Some its → RunsIt machine its
maintain_so m maintain.Claims machine its fits runs = claim_so m.claiming machine its fits runs
maintain_so m step machine its fits runs = cc

keeping_so : (s : KeeperState) (step : Keeping) (machine : EpochMachine) (its : Armed) → FitsMachine (keeping_machine s step) machine → keeping_runs s step ≡ Some its → RunsIt machine its
keeping_so s Maintains machine its fits runs = maintain_so s.maintain s.maintain.step machine its fits runs
keeping_so s step machine its fits runs = cc

-- so it was claimed where its epoch was safe
module _ (opening : World) (start : ℕ) (events : List Event) (guarded : guard.IsOpened opening.now start) (number : ℕ) (actor : Actor) (its : Armed) where
  safe_run : slice_get (seen_by_guard opening start events).now.actors number ≡ Some actor → RunsIt actor.machine its → IsSafeRun opening start events its
  safe_run got run_it =
      let w : GuardWorld = seen_by_guard opening start events in
      let shows = life_shows opening start events guarded in
      let machine : EpochMachine = Claims (claim.Runs its.slot its.epoch run_it.safe its.action) in
      let holds = shows.sound.epochs.slots.holds number machine (machine_at w.now.actors number actor got ∙ ap Some run_it.is) in
      record {
        safe = subst (λ (words : List ℕ). its.epoch ≤ safe_of words) shows.words (shows.sound.claims_safe (record { actor = number; slot = its.slot; epoch = its.epoch }) holds.5);
        armed = holds.4;
      }

pub sessions_run : SessionsRunSafely
sessions_run opening start events session s its guarded found runs =
    let shows = life_shows opening start events guarded in
    let seat = shows.sessions session s found in
    safe_run opening start events guarded session seat.actor its seat.sits.got (sitting_so s s.step seat.actor.machine its seat.sits.fits.machine runs)

pub keeper_runs : KeeperRunsSafely
keeper_runs opening start events its guarded runs =
    let shows = life_shows opening start events guarded in
    let there = shows.keeper in
    safe_run opening start events guarded _ there.actor its there.keeps.got (keeping_so (run opening events).now.keeper (run opening events).now.keeper.step there.actor.machine its there.keeps.fits.machine runs)
