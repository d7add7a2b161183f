use Rattle.fkv_renewing.proofs.Pairs.{one_list, some_pairs}
use Rattle.fkv_renewing.proofs.laws.law_pairs.Goals as goal

pub returns-clause-some : goal.returns-clause-some
returns-clause-some c = some_pairs

pub returns-clause-one : goal.returns-clause-one
returns-clause-one c = one_list
