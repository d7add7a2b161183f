use Rattle.fkv_map.proofs.Whole.{whole_of_each_once, each_once_more}
use Rattle.fkv_map.proofs.laws.law_each_once.Goals as goal

pub returns-clause-whole : goal.returns-clause-whole
returns-clause-whole c = whole_of_each_once

pub returns-clause-more : goal.returns-clause-more
returns-clause-more c = each_once_more
