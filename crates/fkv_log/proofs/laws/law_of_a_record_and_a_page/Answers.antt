use Rattle.fkv_log.proofs.Written.{in_order, loads_in_order, last_page}
use Rattle.fkv_log.proofs.laws.law_of_a_record_and_a_page.Goals as goal

pub returns-clause-order : goal.returns-clause-order
returns-clause-order c = in_order

pub returns-clause-loads : goal.returns-clause-loads
returns-clause-loads c = loads_in_order

pub returns-clause-last_page : goal.returns-clause-last_page
returns-clause-last_page c = last_page
