-- The law, by its lemmas.
use Rattle.law_world.proofs.OfGuardKeeper.SparedWrites.{writes_spare_log}
use Rattle.law_world.proofs.OfGuardKeeper.StepCalls.{step_calls}
use Rattle.law_world.proofs.guard_keeper.law_keeper_calls.Goals as goal

pub returns-clause-calls : goal.returns-clause-calls
returns-clause-calls c = step_calls

pub returns-clause-spares : goal.returns-clause-spares
returns-clause-spares c = writes_spare_log
