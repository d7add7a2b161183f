-- The law, by its lemmas.
use Rattle.law_world.proofs.OfGuardKeeper.Asked.{knowledge_stays}
use Rattle.law_world.proofs.OfGuardKeeper.Goes.{keeper_goes, turn_goes, commit_goes}
use Rattle.law_world.proofs.guard_keeper.law_keeper_followed.Goals as goal

pub returns-clause-steps : goal.returns-clause-steps
returns-clause-steps c = keeper_goes

pub returns-clause-turns : goal.returns-clause-turns
returns-clause-turns c = turn_goes

pub returns-clause-commits : goal.returns-clause-commits
returns-clause-commits c = commit_goes

pub returns-clause-stays : goal.returns-clause-stays
returns-clause-stays c = knowledge_stays
