use Rattle.std.specs.Ordering.{nat_cmp}
use Rattle.std.specs.BTreeMap.{get}
use Rattle.fkv_renewing.proofs.Growing.{IsChainedTo}
use Rattle.fkv_renewing.proofs.chaining.chain.Given as goal

abbrev pub invariant-loop-i : goal.invariant-loop-i
invariant-loop-i l = IsChainedTo l.bits l.pairs l.i l.records.items (get nat_cmp l.latest)
