use Rattle.fkv_map.proofs.Keys.{legal_firsts, legal_kept}
use Rattle.fkv_map.proofs.laws.law_legal_firsts.Goals as goal

pub returns-clause-firsts : goal.returns-clause-firsts
returns-clause-firsts c = legal_firsts

pub returns-clause-kept : goal.returns-clause-kept
returns-clause-kept c = legal_kept
