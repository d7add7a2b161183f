use Rattle.fkv_newest.proofs.Losing.{AreInOrder}
use Rattle.fkv_newest.proofs.suiting.has_lost.Given as goal

abbrev pub invariant-loop-i : goal.invariant-loop-i
invariant-loop-i l = AreInOrder l.slot l.ranges l.i
