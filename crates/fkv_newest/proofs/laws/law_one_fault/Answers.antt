use Rattle.fkv_newest.proofs.Faultless.{one_fault}
use Rattle.fkv_newest.proofs.laws.law_one_fault.Goals as goal

pub returns : goal.returns
returns c = one_fault
