-- What a refused call leaves, by what holds at every moment.
use Rattle.fkv_session.proofs.FirstCauses.{begun_caused, begun_refused}
use Rattle.fkv_session.proofs.Spared.{run_refusal}
use Rattle.fkv_session.proofs.Whole.{begun_whole}
use Rattle.fkv_session.proofs.laws.law_of_refusals.Goals as goal

pub returns-clause-at_once : goal.returns-clause-at_once
returns-clause-at_once c = λ seat session its why. begun_whole seat session its why

pub returns-clause-later : goal.returns-clause-later
returns-clause-later c = λ seat opening events why opened refused. run_refusal seat opening events why opened refused

pub returns-clause-cause : goal.returns-clause-cause
returns-clause-cause c = λ seat session its why refused. begun_caused seat session its why refused

pub returns-clause-refused : goal.returns-clause-refused
returns-clause-refused c = λ seat session its why cause. begun_refused seat session its why cause
