-- One request more.
use Rattle.std.proofs.Common.{arith}
use Rattle.fkv_face.specs.Polls as says
use Rattle.fkv_face.proofs.Fronts.{one_more}
use Rattle.fkv_face.proofs.polls.fill.Goals as goal

pub loop-i-preserved : goal.loop-i-preserved
loop-i-preserved c = one_more says.request_of _ c.args.list.now c.args.into.now c.loop-i.into c.loop-i.i c.finished_request.result c.finished_request.ensures (omega (arith, c.loop-i-test.true)) (omega (arith, c.loop-i-test.true, c.requires)) c.loop-i.invariant
