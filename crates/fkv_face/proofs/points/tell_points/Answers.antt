-- One point more.
use Rattle.std.proofs.Common.{refl, arith}
use Rattle.fkv_face.proofs.Fronts.{one_more}
use Rattle.fkv_face.proofs.points.tell_points.Goals as goal

pub loop-i-preserved : goal.loop-i-preserved
loop-i-preserved c = one_more (λ s. s.0) (record { 0 = 0 }) c.args.given.now c.args.points.now c.loop-i.points c.loop-i.i _ refl (omega (arith, c.loop-i-test.true, c.min-count.ensures)) (omega (arith, c.loop-i-test.true, c.min-count.ensures)) c.loop-i.invariant
