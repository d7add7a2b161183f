-- The law, by how each call ends.
use Rattle.fkv_keeper.specs.declared.answers.KeeperTold.TheVariants.{CommitRefused, TurnRefused}
use Rattle.fkv_keeper.specs.declared.keepers.Keeping.TheVariants.{Ended}
use Rattle.law_causes.proofs.OfCauses.Runs.{run_comes}
use Rattle.law_causes.proofs.laws.law_of_refusals.Goals as goal

pub returns-clause-commits : goal.returns-clause-commits
returns-clause-commits c = λ shape p opening before event why opened calling ends. run_comes shape p opening before event (Ended (CommitRefused why)) opened calling ends

pub returns-clause-turns : goal.returns-clause-turns
returns-clause-turns c = λ shape p opening before event why opened calling ends. run_comes shape p opening before event (Ended (TurnRefused why)) opened calling ends
