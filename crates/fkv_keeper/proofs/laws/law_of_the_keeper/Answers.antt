-- The law, by what holds at every moment.
use Rattle.fkv_keeper.proofs.HandBusy.{run_ended}
use Rattle.fkv_keeper.proofs.KeeperRuns.{copy_again, run_broken, run_finished, run_memory, run_number, run_rests}
use Rattle.fkv_keeper.proofs.laws.law_of_the_keeper.Goals as goal

pub returns-clause-broken : goal.returns-clause-broken
returns-clause-broken c = λ shape p opening events opened failed. run_broken shape p opening events opened failed

pub returns-clause-finished : goal.returns-clause-finished
returns-clause-finished c = λ shape p opening events opened finishes. run_finished shape p opening events opened finishes

pub returns-clause-rests : goal.returns-clause-rests
returns-clause-rests c = λ shape p opening events opened rests. run_rests shape p opening events opened rests

pub returns-clause-memory : goal.returns-clause-memory
returns-clause-memory c = λ shape p opening events event opened calling ends. run_memory shape p opening events event opened calling ends

pub returns-clause-number : goal.returns-clause-number
returns-clause-number c = λ shape p opening events event full opened calling ends. run_number shape p opening events event full opened calling ends

pub returns-clause-again : goal.returns-clause-again
returns-clause-again c = λ shape p s. copy_again shape p s

pub returns-clause-over : goal.returns-clause-over
returns-clause-over c = λ shape p opening events opened buckets none. run_ended shape p opening events buckets opened.none_in_hand opened.none_rest none
