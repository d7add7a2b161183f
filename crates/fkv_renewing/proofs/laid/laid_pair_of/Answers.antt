use Rattle.std.proofs.Common.{◌∙◌, ap, sym}
use Rattle.fkv_spread.specs.Spreading.{key_told}
use Rattle.fkv_renewing.proofs.laid.laid_pair_of.Goals as goal

pub returns-clause-back : goal.returns-clause-back
returns-clause-back c = ap (key_told c.args.keys) (sym c.laid.ensures.laid) ∙ c.laid.ensures.back
