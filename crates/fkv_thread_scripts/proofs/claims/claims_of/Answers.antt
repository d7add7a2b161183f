-- The updates of one line more are noted.
use Rattle.fkv_thread_scripts.proofs.Compared.{claims_on}
use Rattle.fkv_thread_scripts.proofs.claims.claims_of.Goals as goal

pub loop-line-preserved : goal.loop-line-preserved
loop-line-preserved c = claims_on _ _ c.args.lines.now c.loop-line.line-index _ c.loop-line-test.true c.in_ok-claim_line.ensures.ok c.loop-line.invariant
