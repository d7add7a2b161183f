-- The law, by what holds while a call is in hand, and as it ends.
use Rattle.fkv_keeper.proofs.DrainRuns.{run_full, run_refused}
use Rattle.fkv_keeper.proofs.laws.law_of_the_drain.Goals as goal

pub returns-clause-full : goal.returns-clause-full
returns-clause-full c = λ shape p opening events event done opened calling ends. run_full shape p opening events event done opened calling ends

pub returns-clause-refused : goal.returns-clause-refused
returns-clause-refused c = λ shape p opening events event opened calling ends. run_refused shape p opening events event opened calling ends
