use Rattle.fkv_renewing.proofs.Lying.{one_order}
use Rattle.fkv_renewing.proofs.laws.law_laid.Goals as goal

pub returns : goal.returns
returns c = one_order
