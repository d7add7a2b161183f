use Rattle.fkv_map.proofs.Whole.{whole_of_lives, kept_of_lives}
use Rattle.fkv_map.proofs.laws.law_lives_follow.Goals as goal

pub returns-clause-whole : goal.returns-clause-whole
returns-clause-whole c = whole_of_lives

pub returns-clause-kept : goal.returns-clause-kept
returns-clause-kept c = kept_of_lives
