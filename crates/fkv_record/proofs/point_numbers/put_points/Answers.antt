use Rattle.std.proofs.Common.{ap, arith, length}
use Rattle.fkv_record.proofs.PointApart.{one_more_point}
use Rattle.fkv_record.proofs.point_numbers.put_points.Goals as goal

pub loop-i-preserved : goal.loop-i-preserved
loop-i-preserved c =
    let points = c.args.points.now in
    let few = points.few_sessions in
    rw (c.loop-i.invariant, c.deref-serial-items.ensures.0) (one_more_point points.serials.items c.loop-i.i (length points.serials.items) _ (omega (arith, ap length c.deref-serial-items.ensures.0)) (omega (arith, few)))
