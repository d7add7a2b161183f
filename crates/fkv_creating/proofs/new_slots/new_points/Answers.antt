use Rattle.std.proofs.Common.{arith, ◌≡◌, length}
use Rattle.fkv_creating.proofs.Suiting.{many_points, points_fit}
use Rattle.fkv_creating.proofs.new_slots.new_points.Goals as goal

pub invariant_of-result-clause-some_session : goal.invariant_of-result-clause-some_session
invariant_of-result-clause-some_session c =
    let many : length c.loop.serials.items ≡ c.loop.counter = many_points c.loop.serials.items c.loop.counter c.loop.invariant in
    omega (arith, many, c.loop.auto.counter-end, c.loop-test.false, c.args.shape.limits.some_session)

pub invariant_of-result-clause-serials_fit : goal.invariant_of-result-clause-serials_fit
invariant_of-result-clause-serials_fit c = points_fit c.loop.serials.items c.loop.counter c.loop.invariant
