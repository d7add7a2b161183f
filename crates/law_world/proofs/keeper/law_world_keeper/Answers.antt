-- By the law of the keeper, of its own run.
use Rattle.std.specs.Prelude.{◌≡◌, true}
use Rattle.fkv_base.specs.declared.faults.Fault.TheVariants.{Memory}
use Rattle.fkv_keeper.specs.KeeperLaws.{IsFinishOfBegun, IsMemoryRefused}
use Rattle.fkv_keeper.specs.KeeperRun.{number_open}
use Rattle.fkv_keeper.specs.declared.answers.KeeperTold.TheVariants.{TurnRefused, Turned}
use Rattle.fkv_keeper.specs.declared.keepers.Keeping.TheVariants.{Ended}
use Rattle.fkv_keeper.proofs.Shown.{copy_again, run_memory, run_number}
use Rattle.law_world.specs.Keeper.Lives.{keeper_after}
use Rattle.fkv_world.specs.Runs.{run}
use Rattle.law_world.proofs.OfKeeper.OwnRun.{keeper_breaks, keeper_finishes, of_event, to_event}
use Rattle.law_world.proofs.keeper.law_world_keeper.Goals as goal

pub returns-clause-broken : goal.returns-clause-broken
returns-clause-broken c = λ opening events opened failed. keeper_breaks opening events opened failed

pub returns-clause-finished : goal.returns-clause-finished
returns-clause-finished c = λ opening events opened finishes. keeper_finishes opening events opened finishes

pub returns-clause-memory : goal.returns-clause-memory
returns-clause-memory c = λ opening events event before opened newest calling ends. of_event (λ s. IsMemoryRefused (keeper_after opening before) s) opening events event before newest (run_memory opening.now.shape opening.now.places opening.now.keeper before event opened.keeper calling (to_event (λ s. s.step ≡ Ended (TurnRefused Memory)) opening events event before newest ends))

pub returns-clause-again : goal.returns-clause-again
returns-clause-again c = λ opening events. copy_again opening.now.shape opening.now.places (run opening events).now.keeper

pub returns-clause-number : goal.returns-clause-number
returns-clause-number c = λ opening events event before full opened newest calling ends. of_event (λ s. IsFinishOfBegun (number_open opening.now.shape opening.now.places opening.now.keeper before) (keeper_after opening before) s) opening events event before newest (run_number opening.now.shape opening.now.places opening.now.keeper before event full opened.keeper calling (to_event (λ s. s.step ≡ Ended (Turned true full)) opening events event before newest ends))
