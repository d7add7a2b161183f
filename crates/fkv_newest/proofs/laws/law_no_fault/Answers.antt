use Rattle.fkv_newest.proofs.Faultless.{no_fault}
use Rattle.fkv_newest.proofs.laws.law_no_fault.Goals as goal

pub returns : goal.returns
returns c = λ image n why told found. no_fault c.law_spellings_apart.ensures.shapes image n why told found
