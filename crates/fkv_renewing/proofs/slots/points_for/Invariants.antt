use Rattle.fkv_renewing.proofs.Pointing.{ArePointsTo}
use Rattle.fkv_renewing.proofs.slots.points_for.Given as goal

abbrev pub invariant-loop-session : goal.invariant-loop-session
invariant-loop-session l = ArePointsTo l.points l.session l.serials.items
