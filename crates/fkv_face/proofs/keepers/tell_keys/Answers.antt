-- One key more.
use Rattle.std.proofs.Common.{refl, arith}
use Rattle.fkv_face.proofs.Fronts.{one_more}
use Rattle.fkv_face.proofs.keepers.tell_keys.Goals as goal

pub loop-i-preserved : goal.loop-i-preserved
loop-i-preserved c = one_more (λ k. k.0) (record { 0 = 0 }) c.args.wanted.now c.args.keys.now c.loop-i.keys c.loop-i.i _ refl (omega (arith, c.loop-i-test.true, c.min-count.ensures)) (omega (arith, c.loop-i-test.true, c.min-count.ensures)) c.loop-i.invariant
