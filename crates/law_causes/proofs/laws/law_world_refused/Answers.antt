-- By the law of refusals, of the keeper's own run.
use Rattle.std.proofs.Common.{◌≡◌, List, ◌∷◌, ap, sym, subst, ◌∙◌}
use Rattle.fkv_keeper.specs.Keeping.{KeeperState}
use Rattle.fkv_keeper.specs.KeeperRun.{KeeperEvent}
use Rattle.fkv_keeper.specs.declared.answers.KeeperTold.TheVariants.{CommitRefused, TurnRefused}
use Rattle.fkv_keeper.specs.declared.keepers.Keeping.TheVariants.{Ended}
use Rattle.fkv_world.proofs.Shown.{keeper_runs}
use Rattle.fkv_world.specs.OwnEvents.{keeper_events}
use Rattle.fkv_world.specs.Runs.{World, run}
use Rattle.fkv_world.specs.World.{Event}
use Rattle.law_causes.specs.Causes.{HasCommitCause}
use Rattle.law_causes.specs.Lives.{keeper_before, kind_of_life, told_in_life}
use Rattle.law_causes.proofs.OfCauses.Runs.{run_comes}
use Rattle.law_causes.proofs.laws.law_world_refused.Goals as goal

-- the keeper of the life is its own run, up to its newest event
own_run : (opening : World) (events : List Event) (event : KeeperEvent) (before : List KeeperEvent) → keeper_events opening events ≡ event ∷ before → (run opening events).now.keeper ≡ keeper_before opening (event ∷ before)
own_run opening events event before newest = keeper_runs opening events ∙ ap (λ (own : List KeeperEvent). keeper_before opening own) newest

pub returns-clause-commits : goal.returns-clause-commits
returns-clause-commits c = λ opening events event before why opened newest calling ends.
    let same = own_run opening events event before newest in
    subst (λ (s : KeeperState). HasCommitCause before (kind_of_life opening (event ∷ before)) s (told_in_life opening (event ∷ before)) why) (sym same)
    (run_comes opening.now.shape opening.now.places opening.now.keeper before event (Ended (CommitRefused why)) opened.keeper calling (sym (ap (λ (s : KeeperState). s.step) same) ∙ ends))

pub returns-clause-turns : goal.returns-clause-turns
returns-clause-turns c = λ opening events event before why opened newest calling ends.
    run_comes opening.now.shape opening.now.places opening.now.keeper before event (Ended (TurnRefused why)) opened.keeper calling (sym (ap (λ (s : KeeperState). s.step) (own_run opening events event before newest)) ∙ ends)
