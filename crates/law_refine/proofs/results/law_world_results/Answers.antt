-- The law, by a call's own run and by what answers tell.
use Rattle.law_refine.proofs.OfResults.Given.{all_given}
use Rattle.law_refine.proofs.OfResults.InCall.{effects_in_call, result_told}
use Rattle.law_refine.proofs.OfResults.There.{given_at_rest}
use Rattle.law_refine.proofs.results.law_world_results.Goals as goal

pub returns-clause-effects_in_call : goal.returns-clause-effects_in_call
returns-clause-effects_in_call c = λ opening before number moves op s opened alive found idle. effects_in_call opening before number moves op s opened alive found idle

pub returns-clause-result_told : goal.returns-clause-result_told
returns-clause-result_told c = λ opening before number moves op s its answer opened alive found idle is_now at. result_told opening before number moves op s its answer opened alive found idle is_now at

pub returns-clause-all_given : goal.returns-clause-all_given
returns-clause-all_given c = λ opening events number s its opened found idle is_in mine. all_given opening events number s its opened found idle is_in mine

pub returns-clause-given_at_rest : goal.returns-clause-given_at_rest
returns-clause-given_at_rest c = λ opening events its opened nobody is_in. given_at_rest opening events its opened nobody is_in
