use Rattle.fkv_renewing.proofs.Holding.{are_pairs, is_sound}
use Rattle.fkv_renewing.proofs.laws.law_renewed_log.Goals as goal

pub returns-clause-sound : goal.returns-clause-sound
returns-clause-sound c = λ log pairs records renewed slots. is_sound c.law_spellings_apart.ensures.records log pairs records renewed slots

pub returns-clause-pairs : goal.returns-clause-pairs
returns-clause-pairs c = λ log pairs records renewed some. are_pairs c.law_spellings_apart.ensures.records log pairs records renewed some
