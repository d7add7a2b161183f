-- One pair more.
use Rattle.std.proofs.Common.{arith}
use Rattle.fkv_renewing.specs.Laid.{laid_pair}
use Rattle.fkv_renewing.proofs.Lying.{IsToldBack, one_kept, one_more}
use Rattle.fkv_renewing.proofs.laid.lay_each.Goals as goal

pub loop-i-preserved : goal.loop-i-preserved
loop-i-preserved c = (
  one_more (laid_pair c.args.keys) _ c.args.pairs.now c.loop-i.pairs c.loop-i.i c.laid_pair_of.result c.laid_pair_of.ensures.laid (omega (arith, c.loop-i-test.true)) c.loop-i.invariant.0,
  one_kept (IsToldBack c.args.keys) (laid_pair c.args.keys) _ c.args.pairs.now c.loop-i.pairs c.loop-i.i c.laid_pair_of.ensures.back (omega (arith, c.loop-i-test.true)) c.loop-i.invariant.0 c.loop-i.invariant.1,
)
