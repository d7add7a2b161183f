-- A search begins with eight asks for each bucket, and those of a link.
use Rattle.std.proofs.Common.{arith}
use Rattle.fkv_index.specs.Finding.{step_asks_left}
use Rattle.fkv_index.proofs.Asks.{linking_few}
use Rattle.fkv_index.proofs.finding.Find.start.Goals as goal

pub returns-clause-bounded : goal.returns-clause-bounded
unfolding step_asks_left
returns-clause-bounded c =
    let few = linking_few c.linking_for.result in
    rw (← c.self.view_is) (omega (arith, few))
