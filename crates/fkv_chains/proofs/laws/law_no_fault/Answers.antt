use Rattle.fkv_chains.proofs.Faultless.{no_fault}
use Rattle.fkv_chains.proofs.laws.law_no_fault.Goals as goal

pub returns : goal.returns
returns c = λ log why sound found. no_fault c.law_spellings_apart.ensures.records log why sound found
