-- The commits that have begun in a life.
use Rattle.std.proofs.Common.{◌≡◌, List, [], ◌∷◌, refl, true}
use Rattle.law_refine.specs.Below.fkv_keeper.KeeperLaws.{MayRest}
use Rattle.law_refine.specs.Below.fkv_keeper.Keeping.{KeeperState, come_to}
use Rattle.law_refine.specs.Below.law_world.Standing.Opening.{AreNumbersInTurn}
use Rattle.law_refine.specs.Below.law_world.Keeper.Lives.{keeper_after}
use Rattle.law_refine.specs.Below.fkv_world.Opened.{IsOpenedWorld}
use Rattle.law_refine.specs.Below.fkv_world.OwnEvents.{keeper_events}
use Rattle.law_refine.specs.Below.fkv_world.Runs.{World, run}
use Rattle.law_refine.specs.Below.fkv_world.World.{Event}
use Rattle.law_refine.proofs.Below.law_world.OfKeeper.OwnRun.{of_keeper}
use Rattle.law_commit.specs.BegunCommits.{AreInTurn, commit_opened, life_begun}
use Rattle.law_commit.specs.HeldCommits.{AtKeeping, HaveFinished}
use Rattle.law_commit.proofs.BegunStands.{run_stands, said_so}
use Rattle.law_commit.proofs.InRest.{rests_there}
use Rattle.law_commit.proofs.InTurn.{run_turn}

pub opening_finished : (opening : World) → HaveFinished (commit_opened opening.now opening.past.opened ∷ []) opening.now.keeper.last
opening_finished opening = record {
  newest = commit_opened opening.now opening.past.opened;
  older = [];
  its = refl;
  finished = (refl, refl, tt);
  last = record { number = refl; begin = refl; points = refl; checkpoint = refl };
}

-- in a life writes rest at such steps alone
pub life_rests : (opening : World) (events : List Event) → IsOpenedWorld opening → (run opening events).now.keeper.rests ≡ true → MayRest (run opening events).now.keeper.step
life_rests opening events opened =
    of_keeper (λ (x : KeeperState). x.rests ≡ true → MayRest x.step) opening events (rests_there opening.now.shape opening.now.places opening.now.keeper (keeper_events opening events) opened.keeper)

pub life_stands : (opening : World) (events : List Event) → IsOpenedWorld opening → AtKeeping (life_begun opening events) (run opening events).now.keeper (come_to (run opening events).now.keeper)
life_stands opening events opened =
    let s : KeeperState = keeper_after opening (keeper_events opening events) in
    of_keeper (λ (x : KeeperState). AtKeeping (life_begun opening events) x (come_to x)) opening events
    (said_so (life_begun opening events) s (come_to s)
    (run_stands opening.now.shape opening.now.places opening.now.keeper (commit_opened opening.now opening.past.opened ∷ []) (keeper_events opening events) opened.keeper (opening_finished opening)))

pub life_turn : (opening : World) (events : List Event) → IsOpenedWorld opening → AreNumbersInTurn opening.now.shape opening.now.places opening.now.keeper (keeper_events opening events) → AreInTurn (life_begun opening events)
life_turn opening events opened turn =
    run_turn opening.now.shape opening.now.places opening.now.keeper (commit_opened opening.now opening.past.opened ∷ []) (keeper_events opening events) opened.keeper (opening_finished opening) (tt, tt) turn
